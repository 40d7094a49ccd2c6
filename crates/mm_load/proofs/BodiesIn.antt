-- Bodies of the program, where what they mention breaks no rule.
use Rattle.std.proofs.Common.{◌≡◌, ℕ, ◌+◌, ◌≤◌, List, [], ◌∷◌, ◌++◌, Some, flat_map, length, take, true, sym, ap, subst, arith}
use Rattle.std.specs.Prelude.{All, IfSome}
use Rattle.std.proofs.lemmas.List.{take_at}
use Rattle.std.proofs.lemmas.List.Elements.{All-append, All-cons}
use Rattle.mm_ast.specs.declared.bodies.Body.{Body}
use Rattle.mm_lower.specs.Bodies.{body_of}
use Rattle.mm_lower.specs.Params.{Params}
use Rattle.mm_lower.specs.Types.{types_of}
use Rattle.mm_mentions.specs.BodyMentions.{block_mentions, body_mentions}
use Rattle.mm_mentions.specs.declared.mention.Mention.{Mention}
use Rattle.mm_mentions.specs.Frames.{frame_of}
use Rattle.mm_mentions.specs.Scopes as mentions
use Rattle.mm_mentions.specs.TypeMentions as mentioned
use Rattle.mm_program.specs.declared.parts.DefPart.{DefPart}
use Rattle.mm_program.specs.declared.parts.Parts.{Parts}
use Rattle.mm_program.specs.Bodies.{IsBlockIn, IsBodyIn}
use Rattle.mm_program.specs.Types.{IsTypeIn}
use Rattle.mm_resolve.specs.Scopes.{Scope, leads_to}
use Rattle.mm_rules.specs.MentionRules.{broken}
use Rattle.mm_terms.specs.declared.tree.Tree.{Tree}
use Rattle.mm_terms.specs.Lists.{All-apart}
use Rattle.mm_written.specs.Bodies.{written_body}
use Rattle.mm_load.specs.Leads.{Leads, Kept, InScope}
use Rattle.mm_load.proofs.Below.{body_is, has_parts}
use Rattle.mm_load.proofs.BlocksIn.{blocks_in}
use Rattle.mm_load.proofs.TypesIn.{all_written_in}

-- the locals begin with those of the result and of the parameters
begins_with : (result : Tree) (tys lets : List Tree) → take (length tys + 1) ((result ∷ tys) ++ lets) ≡ result ∷ tys
begins_with result tys lets = take_at (result ∷ tys) lets (length tys + 1) (omega arith)

module _ (p : Parts) (scope : Scope) (leads : Leads p (leads_to scope)) (names : mentions.Scope) (params : Params) (n : ℕ) (in_scope : InScope names params n) where
  -- the body of a definition with this result and these parameters
  pub body_in : (part : DefPart) (result : Tree) (tys : List Tree) (written_params : ℕ) (body : Body)
      → part.type_params ≡ n → part.params ≡ tys → part.result ≡ Some result → IsTypeIn p n result → All (IsTypeIn p n) tys
      → Kept scope (body_mentions names (length tys) body) → written_body written_params body ≡ true → length tys ≤ written_params + 1
      → IsBodyIn p part (body_of (leads_to scope) params result tys body)
  unfolding body_mentions body_of
  body_in part result tys written_params body of_n of_tys of_result result_in tys_in kept written room =
      let IsKept : Mention → Type 0 = λ m. broken scope m.what ≡ [] in
      let frame = frame_of (length tys) body in
      let parts = has_parts written_params body written in
      let apart = All-apart IsKept (mentioned.written_types names body.lets) (flat_map (block_mentions names frame) body.blocks) kept in
      let lets = types_of (leads_to scope) params body.lets in
      let lets_in = all_written_in p scope leads names params n in_scope body.lets apart.0 parts.lets in
      let begins = begins_with result tys lets in
      record {
        body = body_is (leads_to scope) params result tys scope names written_params body kept written room;
        params = ap length (sym of_tys);
        signature =
            subst (λ o. IfSome o (λ r. take (length part.params + 1) ((result ∷ tys) ++ lets) ≡ r ∷ part.params)) (sym of_result)
            (subst (λ ts. take (length ts + 1) ((result ∷ tys) ++ lets) ≡ result ∷ ts) (sym of_tys) begins);
        locals = subst (λ k. All (IsTypeIn p k) ((result ∷ tys) ++ lets)) (sym of_n) (All-append (IsTypeIn p n) (result ∷ tys) lets (All-cons (IsTypeIn p n) result tys result_in tys_in) lets_in);
        blocks = subst (λ k. All (IsBlockIn p k) (body_of (leads_to scope) params result tys body).blocks) (sym of_n) (blocks_in p scope leads names params n in_scope frame body.blocks apart.1 parts.blocks);
      }
