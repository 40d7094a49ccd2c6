use Rattle.std.proofs.Common.{◌≡◌, ℕ, List, cond, Some, None, sym, ◌∙◌, subst, arith}
use Rattle.std.proofs.lemmas.Map.Text.{hash_map_updates_str}
use Rattle.std.specs.Option.{option_or}
use Rattle.std.specs.Str.{bytes_eq}
use Rattle.mm_load_plain.specs.Names.{look_up}
use Rattle.mm_load_plain.proofs.IndexLemmas.{noted_now}
use Rattle.mm_load_plain.proofs.name_table.note.Goals as goal

pub returns : goal.returns
returns c =
    let same : c.in-Ok.index ≡ c.args.index = omega arith in
    subst (λ p. (q : List ℕ) → look_up c.insert.new.self q ≡ option_or (look_up c.args.table.now q) (cond (bytes_eq q c.args.name.now) (Some p) None)) same
    (noted_now (look_up c.args.table.now) c.args.name.now c.in-Ok.index (look_up c.insert.new.self) (sym c.contains_key.ensures ∙ c.if-contains_key.false) (hash_map_updates_str c.args.name.now c.args.table.now c.insert.new.self (Some c.in-Ok.index) c.in_ok-insert.ensures.updates))
