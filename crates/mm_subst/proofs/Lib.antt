mod ParamLemmas
