-- Which traits are dyn compatible: those of which each method can be called through a vtable.
use Rattle.std.specs.Prelude.{List, [], ◌∷◌, length, Bool, true, false, not, ◌&&◌, ◌||◌, nat_eq}
use Rattle.std.specs.List.{list_any, list_all}
use Rattle.std.specs.Option.{option_map_or}
use Rattle.mm_ast.specs.declared.items.Method.{Method}
use Rattle.mm_ast.specs.declared.items.Signature.{Signature}
use Rattle.mm_ast.specs.declared.types.Head.{Head}
use Rattle.mm_ast.specs.declared.types.Head.TheVariants as heads
use Rattle.mm_ast.specs.declared.types.Type as types
use Rattle.mm_definitions.specs.Trees.{head_of, children_of, type_fold}

abbrev pub is_self_head : Head → Bool
is_self_head heads.SelfType = true
is_self_head _ = false

abbrev pub is_ref_head : Head → Bool
is_ref_head heads.Ref = true
is_ref_head _ = false

-- `Self` stands somewhere in the type
unfoldable pub has_self : types.«Type» → Bool
has_self = type_fold (λ line head below. is_self_head head || list_any (λ has. has) below)

-- the first of these types is `Self`
abbrev pub begins_with_self : List types.«Type» → Bool
begins_with_self [] = false
begins_with_self (t ∷ others) = is_self_head (head_of t)

-- the type is `&Self`
unfoldable pub is_self_ref : types.«Type» → Bool
is_self_ref t = is_ref_head (head_of t) && begins_with_self (children_of t)

-- the first parameter is `&Self`, and `Self` stands in no other
abbrev pub has_receiver : List types.«Type» → Bool
has_receiver [] = false
has_receiver (first ∷ others) = is_self_ref first && not (list_any has_self others)

-- the first parameter is `&Self`, and `Self` stands nowhere else
unfoldable pub dispatches : Signature → Bool
dispatches s = has_receiver s.params && not (option_map_or has_self s.result false)

-- no type parameters of its own
unfoldable pub is_dyn_method : Method → Bool
is_dyn_method m = nat_eq (length m.type_params) 0 && dispatches m.signature

unfoldable pub is_dyn_compatible : List Method → Bool
is_dyn_compatible methods = list_all is_dyn_method methods
