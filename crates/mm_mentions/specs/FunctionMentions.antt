-- What is mentioned by functions, closures and methods of traits.
use Rattle.std.specs.List.{flat_map}
use Rattle.std.specs.Option.{option_map_or}
use Rattle.std.specs.Prelude.{◌+◌, List, [], ◌∷◌, ◌++◌, length, None, false, true}
use Rattle.mm_ast.specs.declared.items.Bound.{Bound}
use Rattle.mm_ast.specs.declared.items.BoundForm.TheVariants as bounds
use Rattle.mm_ast.specs.declared.items.BoundForm.{BoundForm}
use Rattle.mm_ast.specs.declared.items.Closure.{Closure}
use Rattle.mm_ast.specs.declared.items.Function.{Function}
use Rattle.mm_ast.specs.declared.items.Method.{Method}
use Rattle.mm_ast.specs.declared.items.Signature.{Signature}
use Rattle.mm_definitions.specs.declared.kinds.Kind.TheVariants as kinds
use Rattle.mm_definitions.specs.declared.kinds.Wanted.TheVariants as wants
use Rattle.mm_mentions.specs.declared.mention.Mention.{Mention}
use Rattle.mm_mentions.specs.BodyMentions.{body_mentions}
use Rattle.mm_mentions.specs.Mentions.{path_at}
use Rattle.mm_mentions.specs.Scopes.{Names, Scope, no_names, of_params, scope_of}
use Rattle.mm_mentions.specs.TypeMentions.{names_in, names_in_all, written_type, written_types}

-- the scope of a definition that stands in no trait, and of the head of an impl, with these type parameters
abbrev pub scope_with : Names → Scope
scope_with own = scope_of no_names own false

-- the trait of a bound
abbrev pub bound_form_mentions : Scope → BoundForm → List Mention
bound_form_mentions scope (bounds.Trait named) = path_at (wants.One kinds.Trait) named.path (length named.args) None ∷ names_in_all true scope named.args
bound_form_mentions scope bounds.Call = []

-- a bound of a where clause: of its types the names alone
unfoldable pub bound_mentions : Scope → Bound → List Mention
bound_mentions scope b = names_in true scope b.ty ++ bound_form_mentions scope b.form

abbrev pub bounds_mentions : Scope → List Bound → List Mention
bounds_mentions scope bounds = flat_map (bound_mentions scope) bounds

-- the types of the parameters and of the result
unfoldable pub signature_mentions : Scope → Signature → List Mention
signature_mentions scope s = written_types scope s.params ++ option_map_or (written_type scope) s.result []

unfoldable pub function_mentions : Scope → Function → List Mention
function_mentions scope f = signature_mentions scope f.signature ++ bounds_mentions scope f.bounds ++ body_mentions scope (length f.signature.params) f.body

-- a closure has one parameter more than is written: the closure itself
unfoldable pub closure_mentions : Scope → Closure → List Mention
closure_mentions scope c = written_types scope c.captures ++ signature_mentions scope c.signature ++ body_mentions scope (length c.signature.params + 1) c.body

-- ---- methods of traits

unfoldable pub method_in : Scope → Method → List Mention
method_in scope m = signature_mentions scope m.signature ++ bounds_mentions scope m.bounds ++ option_map_or (body_mentions scope (length m.signature.params)) m.body []

-- a method of a trait with these type parameters
abbrev pub method_mentions : Names → Method → List Mention
method_mentions outer m = method_in (scope_of outer (of_params m.type_params) true) m

abbrev pub methods_mentions : Names → List Method → List Mention
methods_mentions outer methods = flat_map (method_mentions outer) methods
