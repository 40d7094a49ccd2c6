-- What is mentioned by impls.
use Rattle.std.specs.List.{flat_map}
use Rattle.std.specs.Prelude.{ℕ, List, [], ◌∷◌, ◌++◌, length, map, None, Some, false}
use Rattle.mm_ast.specs.declared.items.DropImpl.{DropImpl}
use Rattle.mm_ast.specs.declared.items.Function.{Function}
use Rattle.mm_ast.specs.declared.items.Impl.{Impl}
use Rattle.mm_ast.specs.declared.items.ImplForm.TheVariants as impls
use Rattle.mm_ast.specs.declared.items.ImplForm.{ImplForm}
use Rattle.mm_ast.specs.declared.items.ImplMethod.{ImplMethod}
use Rattle.mm_ast.specs.declared.items.TraitImpl.{TraitImpl}
use Rattle.mm_ast.specs.declared.names.Name.{Name}
use Rattle.mm_ast.specs.declared.names.Path.{Path}
use Rattle.mm_ast.specs.declared.types.Type as types
use Rattle.mm_definitions.specs.declared.kinds.Kind.TheVariants as kinds
use Rattle.mm_definitions.specs.declared.kinds.Wanted.TheVariants as wants
use Rattle.mm_mentions.specs.declared.mention.Mention.{Mention}
use Rattle.mm_mentions.specs.declared.mention.What.TheVariants as whats
use Rattle.mm_mentions.specs.BodyMentions.{body_mentions}
use Rattle.mm_mentions.specs.CalleeMentions.{named_mentions}
use Rattle.mm_mentions.specs.FunctionMentions.{scope_with, bounds_mentions, function_mentions}
use Rattle.mm_mentions.specs.ImplHeads.{occurring, head_names_crate, is_drop_target, adt_path}
use Rattle.mm_mentions.specs.Mentions.{at, member_at}
use Rattle.mm_mentions.specs.Scopes.{Names, Scope, of_params, scope_of}
use Rattle.mm_definitions.specs.Trees.{line_of, head_of}
use Rattle.mm_mentions.specs.TypeMentions.{written_type}

-- each type parameter of an impl: whether it occurs in these types of its head
abbrev pub impl_params_mentions : List Name → List types.«Type» → List Mention
impl_params_mentions params head = map (λ p. at p.line (whats.ImplParam (occurring head p.text))) params

-- the function of a method that an impl with these type parameters gives
abbrev pub given_mentions : Names → Function → List Mention
given_mentions outer f = function_mentions (scope_of outer (of_params f.type_params) false) f

-- a method that an impl gives: the method of the trait that it is, and what it mentions itself
abbrev pub impl_method_mentions : Names → Path → ImplMethod → List Mention
impl_method_mentions outer tr m =
    member_at (wants.One kinds.Method) tr m.function.name (length m.function.type_params) (Some (length m.function.signature.params))
    ∷ given_mentions outer m.function

-- the head of an impl of a trait: the type parameters, the trait, the self type, and what is asked of the whole
unfoldable pub trait_head_mentions : List ℕ → ℕ → Scope → List Name → TraitImpl → List Mention
trait_head_mentions krate line scope params impl =
    impl_params_mentions params (impl.target ∷ impl.of.args)
    ++ named_mentions scope (wants.One kinds.Trait) impl.of None
    ++ written_type scope impl.target
    ++ at line (whats.Head (head_names_crate krate impl))
    ∷ []

-- the bounds and the methods of an impl of a trait
unfoldable pub given_by_trait_mentions : Names → TraitImpl → List Mention
given_by_trait_mentions own impl = bounds_mentions (scope_with own) impl.bounds ++ flat_map (impl_method_mentions own impl.of.path) impl.methods

-- what is asked of the self type of a Drop impl, and of its path at the line of the impl
abbrev pub drop_target_mentions : List ℕ → ℕ → List Name → types.«Type» → List Mention
drop_target_mentions krate line params target =
    at (line_of target) (whats.DropTarget (is_drop_target krate params target))
    ∷ at line (whats.DropImpl (adt_path (head_of target)))
    ∷ []

-- the head of a Drop impl: the type parameters, and the self type
unfoldable pub drop_head_mentions : List ℕ → ℕ → Scope → List Name → types.«Type» → List Mention
drop_head_mentions krate line scope params target =
    impl_params_mentions params (target ∷ []) ++ written_type scope target ++ drop_target_mentions krate line params target

-- the bounds of a Drop impl, and its method `drop`, which has one parameter
unfoldable pub given_by_drop_mentions : Scope → DropImpl → List Mention
given_by_drop_mentions scope impl = bounds_mentions scope impl.bounds ++ written_type scope impl.param ++ body_mentions scope 1 impl.body

-- an impl with these type parameters and their names, in this crate, at this line
unfoldable pub impl_in : List ℕ → ℕ → Names → List Name → ImplForm → List Mention
impl_in krate line own params (impls.Drop d) = drop_head_mentions krate line (scope_with own) params d.target ++ given_by_drop_mentions (scope_with own) d
impl_in krate line own params (impls.Trait t) = trait_head_mentions krate line (scope_with own) params t ++ given_by_trait_mentions own t

abbrev pub impl_mentions : List ℕ → ℕ → Impl → List Mention
impl_mentions krate line impl = impl_in krate line (of_params impl.type_params) impl.type_params impl.form
