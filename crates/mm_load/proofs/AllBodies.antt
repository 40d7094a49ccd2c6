-- The bodies of a text that keeps the rules name no local and no label but their own.
use Rattle.std.specs.Prelude.{◌≡◌, Option, None, Some, IfSome, All, Contains, true}
use Rattle.std.proofs.lemmas.List.Elements.{All-weaker}
use Rattle.mm_ast.specs.declared.items.Ast.{Ast}
use Rattle.mm_program.specs.declared.parts.DefPart.{DefPart}
use Rattle.mm_program.specs.declared.parts.Parts.{Parts}
use Rattle.mm_program.specs.Bodies.{IsBodyIn}
use Rattle.mm_program.specs.Code.{Code, IsBody}
use Rattle.mm_rules.specs.TreeFaults.{KeepsRules}
use Rattle.mm_terms.proofs.ListLemmas.{All-from_contains, All-flat_map}
use Rattle.mm_written.specs.Written.{is_written}
use Rattle.mm_load.specs.Bodies.{HasBody, HasBodies}
use Rattle.mm_load.specs.Located.{Located, items_of}
use Rattle.mm_load.specs.Meaning.{parts_at, all_parts, program_of}
use Rattle.mm_load.specs.Modules.{modules_of}
use Rattle.mm_load.proofs.AllMade.{all_made}
use Rattle.mm_load.proofs.Made.{IsMade}

body_alone : (p : Parts) (part : DefPart) (body : Option Code) → IfSome body (IsBodyIn p part) → IfSome body IsBody
body_alone p part None is = is
body_alone p part (Some code) is = is.body

has_body : (p : Parts) (part : DefPart) → IsMade p part → HasBody part
has_body p part made = body_alone p part part.body made.body

pub all_bodies : (tree : Ast) → is_written tree ≡ true → KeepsRules tree → HasBodies (all_parts tree.crates)
unfolding all_parts
all_bodies tree written kept =
    All-flat_map HasBody (parts_at (modules_of tree.crates)) (items_of tree.crates)
    (All-from_contains (λ l. All HasBody (parts_at (modules_of tree.crates) l)) (items_of tree.crates)
    (λ l has. All-weaker (IsMade (program_of tree.crates)) HasBody (has_body (program_of tree.crates)) (parts_at (modules_of tree.crates) l) (all_made tree written kept l has)))
