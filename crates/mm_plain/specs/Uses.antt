-- What an item uses: the instances that its body calls, as far as they are within the limit on lengths.
use Rattle.std.specs.Prelude.{ℕ, Bool, not, nat_le, List, [], ◌∷◌, Option, None, Some, slice_get, map, filter, flat_map}
use Rattle.mm_terms.specs.declared.ids.DefId.{DefId}
use Rattle.mm_terms.specs.declared.tree.Tree.{Tree}
use Rattle.mm_terms.specs.declared.item.Item.{Item}
use Rattle.mm_terms.specs.declared.item.Item.TheVariants.{Fn, Glue, Shim, Static}
use Rattle.mm_terms.specs.Length.{item_length}
use Rattle.mm_terms.specs.Substitution.{subst_all}
use Rattle.mm_plain.specs.declared.program.Program.{Program}
use Rattle.mm_plain.specs.declared.program.Function.{Function}
use Rattle.mm_plain.specs.declared.program.Call.{Call}
use Rattle.mm_plain.specs.declared.program.End.{End}
use Rattle.mm_plain.specs.declared.program.End.TheVariants as end
use Rattle.mm_plain.specs.declared.over.Over.{Over}

-- the call at the end of a block, where there is one. No other end, and no statement, names an item
abbrev pub end_calls : End → List Call
end_calls (end.Call call) = call ∷ []
end_calls _ = []

-- the calls of a body, block by block in order
abbrev pub calls_of : Function → List Call
calls_of f = flat_map (λ block. end_calls block.end) f.blocks

-- the type arguments of an instance. Other items have none
abbrev pub type_args : Item → List Tree
type_args (Fn d args) = args
type_args _ = []

-- the function that an item is an instance of, where it is one
abbrev pub function_of : Program → Item → Option Function
function_of p (Fn d args) = slice_get p.functions d.0
function_of p _ = None

-- the item that a call in the instance at args names: the callee at the arguments of the call, with args put in
abbrev pub called : List Tree → Call → Item
called args call = Fn call.callee (subst_all args call.args)

-- a function that is not there calls nothing
abbrev pub body_candidates : List Tree → Option Function → List Item
body_candidates args None = []
body_candidates args (Some f) = map (called args) (calls_of f)

-- the candidates for what an item uses: what its calls resolve to, in order of place, repeats kept. Only an instance of a function has calls
abbrev pub candidates_of : Program → Item → List Item
candidates_of p (Fn d args) = body_candidates args (slice_get p.functions d.0)
candidates_of p (Glue t) = []
candidates_of p (Shim t) = []
candidates_of p (Static d) = []

-- the length is at most the limit
abbrev pub is_within : ℕ → Item → Bool
is_within limit x = nat_le (item_length x) limit

-- an item uses its candidates within the limit
abbrev pub uses_of : Program → ℕ → Item → List Item
uses_of p limit x = filter (is_within limit) (candidates_of p x)

-- the path of a function, which is empty where there is no function
abbrev pub function_path : Option Function → List ℕ
function_path None = []
function_path (Some f) = f.path

-- the path of a definition; empty where there is none
abbrev pub path_of : Program → DefId → List ℕ
path_of p d = function_path (slice_get p.functions d.0)

-- the path of the definition that an item is an instance of
abbrev pub item_path : Program → Item → List ℕ
item_path p (Fn d args) = path_of p d
item_path p _ = []

-- the note of an item that is too long
abbrev pub note_of : Program → Item → Over
note_of p x = record { path = item_path p x; length = item_length x }

-- an item notes its other candidates, each by its path and its length
abbrev pub notes_of : Program → ℕ → Item → List Over
notes_of p limit x = map (note_of p) (filter (λ y. not (is_within limit y)) (candidates_of p x))
