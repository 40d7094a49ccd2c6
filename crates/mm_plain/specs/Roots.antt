-- What a program needs from the start, whatever is used: the roots of lazy collection.
use Rattle.std.specs.Prelude.{◌≡◌, ℕ, ◌<◌, ◌&&◌, ◌||◌, Bool, false, not, List, [], length, get_or, map, filter, flat_map, nat_eq, nat_lt}
use Rattle.std.specs.List.{enumerate_from, list_any}
use Rattle.mm_terms.specs.declared.item.Item.{Item}
use Rattle.mm_terms.specs.declared.item.Item.TheVariants.{Fn}
use Rattle.mm_plain.specs.declared.program.Program.{Program}
use Rattle.mm_plain.specs.declared.program.Function.{Function}
use Rattle.mm_plain.specs.declared.program.Call.{Call}
use Rattle.mm_plain.specs.Uses.{calls_of}

-- it has type parameters
abbrev pub is_generic : Function → Bool
is_generic f = nat_lt 0 f.type_params

-- the calls in the bodies of generic functions
abbrev pub generic_calls : Program → List Call
generic_calls p = flat_map calls_of (filter is_generic p.functions)

-- one of the calls names the function with the id
abbrev pub is_named : List Call → ℕ → Bool
is_named calls id = list_any (λ call. nat_eq call.callee.0 id) calls

-- the mark at each place says whether one of the calls names the function there
abbrev pub AreMarks : List Call → List Bool → Type 0
AreMarks calls marks = (id : ℕ) → id < length marks → get_or marks id false ≡ is_named calls id

-- a function that is not generic is exported where other crates can name it, or can instantiate a body that names it
abbrev pub is_exported : Program → ℕ × Function → Bool
is_exported p one = not (is_generic one.1) && (one.1.is_pub || is_named (generic_calls p) one.0)

-- a function that is exported, and the function that a run begins with
abbrev pub is_root : Program → ℕ × Function → Bool
is_root p one = is_exported p one || nat_eq one.0 p.main.0

-- the one instance of a function that has no type parameters
abbrev pub item_of : ℕ → Item
item_of id = Fn (record { 0 = id }) []

-- the item that a run begins with
abbrev pub main_item : Program → Item
main_item p = item_of p.main.0

-- each once, in order of definition
abbrev pub roots_of : Program → List Item
roots_of p = map (λ one. item_of one.0) (filter (is_root p) (enumerate_from 0 p.functions))
