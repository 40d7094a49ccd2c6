use Rattle.std.proofs.Common.{◌∙◌, ap}
use Rattle.std.specs.Prelude.{is_none}
use Rattle.mm_objects.specs.Resolution.{resolve, target_of}
use Rattle.mm_link.proofs.Firsts.{none_is, none_map}
use Rattle.mm_link.proofs.references.is_missing.Goals as goal

pub returns : goal.returns
returns c =
    none_is c.find.result c.is_none.result c.is_none.ensures
    ∙ ap is_none c.find.ensures
    ∙ none_map target_of (resolve c.args.index.now.units c.args.unit c.args.symbol.now)
