use Rattle.std.proofs.Common.{◌≡◌, ℕ, List, take, filter}
use Rattle.std.specs.Option.{option_or}
use Rattle.mm_definitions.specs.declared.kinds.Kind as kinds
use Rattle.mm_resolve.specs.Resolving.{look_up, first_of}
use Rattle.mm_resolve.proofs.scope_table.add_shared.Given as goal

abbrev pub invariant-loop-named : goal.invariant-loop-named
invariant-loop-named l = (kind : kinds.Kind) (path : List ℕ) → look_up l.index kind path ≡ option_or (look_up l.initial.index kind path) (first_of (filter (λ d. d.is_pub) (take l.named-index l.defs)) kind path)
