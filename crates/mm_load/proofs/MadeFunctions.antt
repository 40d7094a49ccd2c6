-- Functions, as they are made.
use Rattle.std.proofs.Common.{◌≡◌, length, Bool, true, None, refl}
use Rattle.mm_ast.specs.declared.items.Function.{Function}
use Rattle.mm_lower.specs.Items.{Site, path_here, function_part}
use Rattle.mm_lower.specs.Params.{numbered, texts}
use Rattle.mm_mentions.specs.FunctionMentions.{scope_with, function_mentions}
use Rattle.mm_mentions.specs.Scopes.{of_params}
use Rattle.mm_program.specs.declared.kind.DefKind.TheVariants as kind
use Rattle.mm_program.specs.declared.parts.Parts.{Parts}
use Rattle.mm_resolve.specs.Scopes.{Scope, leads_to}
use Rattle.mm_written.specs.Items.{written_function}
use Rattle.mm_load.specs.Leads.{Leads, Kept}
use Rattle.mm_load.proofs.Made.{IsMade}
use Rattle.mm_load.proofs.MadeCode.{coded_made}
use Rattle.mm_load.proofs.ParamsInScope.{params_in_scope}

pub function_made : (p : Parts) (scope : Scope) (leads : Leads p (leads_to scope)) (site : Site) (is_pub : Bool) (f : Function)
    → Kept scope (function_mentions (scope_with (of_params f.type_params)) f) → written_function f ≡ true → IsMade p (function_part (leads_to scope) site is_pub f)
unfolding function_part
function_made p scope leads site is_pub f kept written =
    coded_made p scope leads (scope_with (of_params f.type_params)) (numbered (texts f.type_params)) (length f.type_params) (params_in_scope f.type_params) site
    kind.Fn (path_here (leads_to scope) site f.name) is_pub None f
    (record { parent = refl; head = refl; drop_self = refl; result = refl; term = refl; fields = refl; one_variant = tt; methods = refl; drop_impl = refl; params = tt; bounds = tt; bodies = tt; body = refl })
    kept written
