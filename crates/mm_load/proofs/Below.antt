-- The locals and the labels of a body, where what it mentions breaks no rule.
use Rattle.std.proofs.Common.{◌≡◌, ℕ, ◌+◌, ◌<◌, ◌≤◌, ◌^◌, List, [], ◌∷◌, ◌++◌, ◌&&◌, length, map, flat_map, nat_eq, true, arith}
use Rattle.std.specs.List.{list_all}
use Rattle.std.proofs.lemmas.Bool.{eqb-false, ltb-true, not-true}
use Rattle.std.proofs.lemmas.List.{length-append, length-map}
use Rattle.mm_ast.specs.declared.bodies.Body.{Body}
use Rattle.mm_ast.specs.declared.bodies.Callee as callees
use Rattle.mm_lower.specs.Bodies.{block_of, body_of}
use Rattle.mm_lower.specs.Callees.{callee_of}
use Rattle.mm_lower.specs.Params.{Params}
use Rattle.mm_lower.specs.Paths.{Paths}
use Rattle.mm_lower.specs.Types.{type_of, types_of}
use Rattle.mm_mentions.specs.BodyMentions.{block_mentions, body_mentions}
use Rattle.mm_mentions.specs.declared.mention.Mention.{Mention}
use Rattle.mm_mentions.specs.Frames.{frame_of}
use Rattle.mm_mentions.specs.Scopes as mentions
use Rattle.mm_mentions.specs.TypeMentions as mentioned
use Rattle.mm_program.specs.Code.{IsBody, IsCalleeBelow}
use Rattle.mm_resolve.specs.Scopes.{Scope}
use Rattle.mm_rules.specs.MentionRules.{broken}
use Rattle.mm_terms.specs.declared.tree.Tree.{Tree}
use Rattle.mm_terms.specs.Lists.{All-apart}
use Rattle.mm_terms.proofs.ListLemmas.{and_left, and_right}
use Rattle.mm_written.specs.Bodies.{few_locals, written_block, written_body}
use Rattle.mm_written.specs.Lists.{few, some}
use Rattle.mm_written.specs.Types.{written_types}
use Rattle.mm_load.specs.Leads.{Kept}
use Rattle.mm_load.proofs.BlocksBelow.{blocks_below}
use Rattle.mm_load.proofs.OperandsBelow.{no_locals}

-- a written callee names no local
pub callee_below : (paths : Paths) (params : Params) (n : ℕ) (callee : callees.Callee) → IsCalleeBelow n (callee_of paths params callee)
callee_below = no_locals

-- what is counted in a written body, and its types and blocks
pub record HasParts (written_params : ℕ) (body : Body) : Type 0 where
  pub few_locals : written_params + length body.lets + 2 < 2 ^ 32
  pub lets : written_types body.lets ≡ true
  pub some_block : 1 ≤ length body.blocks
  pub few_blocks : length body.blocks < 2 ^ 32
  pub blocks : list_all written_block body.blocks ≡ true

pub has_parts : (written_params : ℕ) (body : Body) → written_body written_params body ≡ true → HasParts written_params body
unfolding written_body few
has_parts written_params body written =
    let counted = few_locals written_params (length body.lets) in
    let each = list_all written_block body.blocks in
    let before = and_left (counted && written_types body.lets && some body.blocks) (few body.blocks && each) written in
    let behind = and_right (counted && written_types body.lets && some body.blocks) (few body.blocks && each) written in
    let first = and_left (counted && written_types body.lets) (some body.blocks) before in
    let any = eqb-false (length body.blocks) 0 (not-true (nat_eq (length body.blocks) 0) (and_right (counted && written_types body.lets) (some body.blocks) before)) in
    record {
      few_locals = ltb-true (written_params + length body.lets + 2) 4294967296 (and_left counted (written_types body.lets) first);
      lets = and_right counted (written_types body.lets) first;
      some_block = omega (arith, any);
      few_blocks = ltb-true (length body.blocks) 4294967296 (and_left (few body.blocks) each behind);
      blocks = and_right (few body.blocks) each behind;
    }

-- The parameters of the body are these types. A closure has one more than is written, the closure itself, and this is the number that
-- its mentions count with; the limit on written parameters leaves room for it
pub body_is : (paths : Paths) (params : Params) (result : Tree) (tys : List Tree) (scope : Scope) (names : mentions.Scope) (written_params : ℕ) (body : Body)
    → Kept scope (body_mentions names (length tys) body) → written_body written_params body ≡ true → length tys ≤ written_params + 1 → IsBody (body_of paths params result tys body)
unfolding body_mentions body_of
body_is paths params result tys scope names written_params body kept written room =
    let frame = frame_of (length tys) body in
    let parts = has_parts written_params body written in
    let IsKept : Mention → Type 0 = λ m. broken scope m.what ≡ [] in
    let lets = types_of paths params body.lets in
    let blocks = map (block_of paths params) body.blocks in
    let locals : length ((result ∷ tys) ++ lets) ≡ 1 + length tys + length body.lets =
    omega (arith, length-append (result ∷ tys) lets, length-map body.lets (type_of paths params))
    in
    let as_many = length-map body.blocks (block_of paths params) in
    let n = length ((result ∷ tys) ++ lets) in
    record {
      locals = omega (arith, locals);
      few_locals = omega (arith, locals, room, parts.few_locals);
      some_block = omega (arith, as_many, parts.some_block);
      few_blocks = omega (arith, as_many, parts.few_blocks);
      blocks =
          blocks_below paths params scope names frame n (omega (arith, locals)) (length blocks) (omega (arith, as_many)) body.blocks
          (All-apart IsKept (mentioned.written_types names body.lets) (flat_map (block_mentions names frame) body.blocks) kept).1
          parts.blocks;
    }
