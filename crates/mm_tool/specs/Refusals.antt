-- What is left of a fault of a text: a text that breaks a rule, and one that has a form which is not built, mean no program.
use Rattle.mm_lex.specs.declared.text_fault.TextFault.{TextFault}
use Rattle.mm_lex.specs.declared.text_fault.TextFault.TheVariants as faults
use Rattle.mm_load_plain.specs.declared.load_error.LoadError.{LoadError}
use Rattle.mm_load_plain.specs.declared.load_error.LoadError.TheVariants as errors
use Rattle.mm_tool.specs.declared.text_refusal.TextRefusal.{TextRefusal}
use Rattle.mm_tool.specs.declared.text_refusal.TextRefusal.TheVariants.{BadText, NoMemory}

abbrev pub of_text : TextFault → TextRefusal
of_text (faults.BadText line column rule) = BadText
of_text faults.NoMemory = NoMemory

abbrev pub of_load : LoadError → TextRefusal
of_load (errors.Rule rule line) = BadText
of_load errors.NotBuilt = BadText
of_load errors.NoMemory = NoMemory
