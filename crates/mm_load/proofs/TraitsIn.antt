-- Definitions at their type arguments, and traits at their types.
use Rattle.std.proofs.Common.{◌≡◌, ℕ, suc, List, None, length, map, ap, ◌∙◌}
use Rattle.std.specs.Prelude.{All}
use Rattle.std.proofs.lemmas.List.{length-map}
use Rattle.std.proofs.lemmas.List.Elements.{All-cons}
use Rattle.mm_ast.specs.declared.names.PathWithArgs.{PathWithArgs}
use Rattle.mm_ast.specs.declared.types.Type as types
use Rattle.mm_definitions.specs.declared.kinds.Kind.TheVariants as kinds
use Rattle.mm_definitions.specs.declared.kinds.Wanted.TheVariants as wants
use Rattle.mm_definitions.specs.Paths.{path_named}
use Rattle.mm_lower.specs.Params.{Params}
use Rattle.mm_lower.specs.Paths.{Paths}
use Rattle.mm_lower.specs.Types.{type_of, types_of, trait_of}
use Rattle.mm_program.specs.declared.parts.Parts.{Parts}
use Rattle.mm_program.specs.Types.{IsTypeIn, AreArgsFor, IsHeadIn}
use Rattle.mm_program.specs.Views.{type_params_of}
use Rattle.mm_resolve.specs.Scopes.{Scope, leads_to}
use Rattle.mm_terms.specs.declared.ids.DefId.{DefId}
use Rattle.mm_load.specs.Leads.{Leads}
use Rattle.mm_load.proofs.NamedIn.{trait_named}
use Rattle.mm_load.proofs.PathsIn.{Found}

-- type arguments, as many as are written
pub args_for : (p : Parts) (paths : Paths) (params : Params) (n : ℕ) (d : DefId) (ts : List types.«Type») → length ts ≡ type_params_of p d → All (IsTypeIn p n) (types_of paths params ts) → AreArgsFor p n d (types_of paths params ts)
args_for p paths params n d ts many types_in = record { count = length-map ts (type_of paths params) ∙ many; types = types_in }

-- a trait that is found, at its types
pub head_at : (p : Parts) (scope : Scope) (leads : Leads p (leads_to scope)) (params : Params) (n : ℕ) (self_type : types.«Type») (named : PathWithArgs)
    → Found scope (wants.One kinds.Trait) (path_named named.path) (length named.args) None → IsTypeIn p n (type_of (leads_to scope) params self_type) → All (IsTypeIn p n) (types_of (leads_to scope) params named.args)
    → IsHeadIn p n (trait_of (leads_to scope) params self_type named)
unfolding trait_of
head_at p scope leads params n self_type named found self_in args_in =
    let is = trait_named p scope leads (path_named named.path) (length named.args) None found in
    let lowered = type_of (leads_to scope) params in
    record {
      tr = is.0;
      args = record {
        count = ap suc (length-map named.args lowered) ∙ is.1;
        types = All-cons (IsTypeIn p n) (lowered self_type) (map lowered named.args) self_in args_in;
      };
    }
