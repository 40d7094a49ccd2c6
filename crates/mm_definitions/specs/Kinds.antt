-- What has a name, by what it is. There is one number of type parameters and one of operands for each.
use Rattle.std.specs.Prelude.{ℕ, List, Bool, false}
use Rattle.mm_definitions.specs.declared.kinds.Kind.{Kind}
use Rattle.mm_definitions.specs.declared.named.Named.{Named}

-- a name of a definition with this number, at this place in its enum or trait, with no more to say of it
abbrev pub named : Kind → ℕ → ℕ → List ℕ → Bool → ℕ → ℕ → Named
named kind n place path is_pub type_params operands =
    record { kind = kind; def = record { 0 = n }; place = place; path = path; is_pub = is_pub; type_params = type_params; operands = operands; is_dyn_compatible = false }
