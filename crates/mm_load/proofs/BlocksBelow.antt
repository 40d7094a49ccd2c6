-- Statements, ends and blocks name locals and blocks that are there, where what they mention breaks no rule.
use Rattle.std.proofs.Common.{◌≡◌, ℕ, ◌+◌, ◌<◌, ◌≤◌, ◌^◌, List, [], ◌∷◌, ◌++◌, ◌&&◌, true, nat_lt, length, map, flat_map, arith}
use Rattle.std.specs.List.{list_all}
use Rattle.std.specs.Prelude.{All}
use Rattle.std.proofs.lemmas.Bool.{ltb-true}
use Rattle.std.proofs.lemmas.List.{length-map}
use Rattle.std.proofs.lemmas.List.Elements.{All-head, All-map, All-weaker}
use Rattle.std.proofs.lemmas.List.Sums.{AllPass-from_list_all}
use Rattle.mm_ast.specs.declared.bodies.Arm as arms
use Rattle.mm_ast.specs.declared.bodies.Block.{Block}
use Rattle.mm_ast.specs.declared.bodies.Call.{Call}
use Rattle.mm_ast.specs.declared.bodies.End.{End}
use Rattle.mm_ast.specs.declared.bodies.End.TheVariants as ends
use Rattle.mm_ast.specs.declared.bodies.Label.{Label}
use Rattle.mm_ast.specs.declared.bodies.New.{New}
use Rattle.mm_ast.specs.declared.bodies.Rvalue.{Rvalue}
use Rattle.mm_ast.specs.declared.bodies.Rvalue.TheVariants as rvalues
use Rattle.mm_ast.specs.declared.bodies.Statement.{Statement}
use Rattle.mm_ast.specs.declared.bodies.Statement.TheVariants as statements
use Rattle.mm_ast.specs.declared.bodies.Switch.{Switch}
use Rattle.mm_lower.specs.Bodies.{arm_of, new_of, rvalue_of, statement_of, switch_of, call_of, end_of, block_of}
use Rattle.mm_lower.specs.Params.{Params}
use Rattle.mm_lower.specs.Paths.{Paths}
use Rattle.mm_mentions.specs.BodyMentions.{place_mentions, dyn_trait_mentions, operand_mentions, operands_mentions, made_mentions, called_mentions, rvalue_mentions, statement_mentions, switch_mentions, call_mentions, end_mentions, block_mentions}
use Rattle.mm_mentions.specs.CalleeMentions.{new_mentions}
use Rattle.mm_mentions.specs.declared.frame.Frame.{Frame}
use Rattle.mm_mentions.specs.declared.mention.Mention.{Mention}
use Rattle.mm_mentions.specs.Frames.{label_mention}
use Rattle.mm_mentions.specs.Scopes as mentions
use Rattle.mm_mentions.specs.TypeMentions.{written_type}
use Rattle.mm_program.specs.declared.block.Arm.{Arm}
use Rattle.mm_program.specs.Code.{IsRvalueBelow, IsStatementBelow, IsEndBelow, IsBlockBelow}
use Rattle.mm_resolve.specs.Scopes.{Scope}
use Rattle.mm_rules.specs.MentionRules.{broken}
use Rattle.mm_terms.specs.Lists.{All-apart}
use Rattle.mm_terms.proofs.ListLemmas.{and_left, All-both, All-from_flat_map, All-from_map}
use Rattle.mm_written.specs.Bodies.{written_statement, written_end, written_block}
use Rattle.mm_written.specs.Lists.{few}
use Rattle.mm_load.specs.Leads.{Kept}
use Rattle.mm_load.proofs.MentionsKept.{is_known}
use Rattle.mm_load.proofs.OperandsBelow.{place_below, operand_below, operands_below, called_below}

few_statements : (block : Block) → written_block block ≡ true → length block.statements < 2 ^ 32
unfolding written_block few
few_statements block written =
    let counted = few block.statements && list_all written_statement block.statements in
    ltb-true (length block.statements) 4294967296
    (and_left (few block.statements) (list_all written_statement block.statements) (and_left counted (written_end block.end) written))

-- the locals of this frame have numbers below n, and its labels have numbers below m
module _ (paths : Paths) (params : Params) (scope : Scope) (names : mentions.Scope) (frame : Frame) (n : ℕ) (above : frame.params + frame.lets < n) (m : ℕ) (all_blocks : frame.blocks ≤ m) where
  abbrev IsKept : Mention → Type 0
  IsKept one = broken scope one.what ≡ []

  label_below : (label : Label) → broken scope (label_mention frame label).what ≡ [] → label.number < m
  label_below label kept =
      let within = ltb-true label.number frame.blocks (is_known scope (nat_lt label.number frame.blocks) kept) in
      omega (arith, within, all_blocks)

  last_below : (before : List Mention) (label : Label) → Kept scope (before ++ label_mention frame label ∷ []) → label.number < m
  last_below before label kept = label_below label (All-head IsKept (label_mention frame label) [] (All-apart IsKept before (label_mention frame label ∷ []) kept).1)

  -- ---- statements

  new_below : (new : New) → Kept scope (made_mentions names frame new) → IsRvalueBelow n (new_of paths params new)
  unfolding new_of
  new_below new kept =
      operands_below paths params scope names frame n above new.operands
      (All-apart IsKept (new_mentions names new.of new.variant (length new.operands)) (operands_mentions names frame new.operands) kept).1

  rvalue_below : (made : Rvalue) → Kept scope (rvalue_mentions names frame made) → IsRvalueBelow n (rvalue_of paths params made)
  unfolding rvalue_mentions rvalue_of
  rvalue_below (rvalues.Use only) kept = operand_below paths params scope names frame n above only kept
  rvalue_below (rvalues.Ref place) kept = place_below paths params scope names frame n above place kept
  rvalue_below (rvalues.Not only) kept = operand_below paths params scope names frame n above only kept
  rvalue_below (rvalues.Binary op left right) kept =
      let apart = All-apart IsKept (operand_mentions names frame left) (operand_mentions names frame right) kept in
      (operand_below paths params scope names frame n above left apart.0, operand_below paths params scope names frame n above right apart.1)
  rvalue_below (rvalues.Variant place) kept = place_below paths params scope names frame n above place kept
  rvalue_below (rvalues.Boxed only) kept = operand_below paths params scope names frame n above only kept
  rvalue_below (rvalues.Tuple parts) kept = operands_below paths params scope names frame n above parts kept
  rvalue_below (rvalues.New new) kept = new_below new kept
  rvalue_below (rvalues.Dyn only behind to) kept =
      let apart = All-apart IsKept (operand_mentions names frame only ++ written_type names behind) (dyn_trait_mentions names to) kept in
      operand_below paths params scope names frame n above only (All-apart IsKept (operand_mentions names frame only) (written_type names behind) apart.0).0

  statement_below : (s : Statement) → Kept scope (statement_mentions names frame s) → IsStatementBelow n (statement_of paths params s)
  unfolding statement_mentions statement_of
  statement_below (statements.Set place made) kept =
      let apart = All-apart IsKept (place_mentions frame place) (rvalue_mentions names frame made) kept in
      (place_below paths params scope names frame n above place apart.0, rvalue_below made apart.1)
  statement_below (statements.Print only) kept = operand_below paths params scope names frame n above only kept

  -- ---- ends

  arms_below : (list : List arms.Arm) → Kept scope (map (λ arm. label_mention frame arm.label) list) → All (λ (arm : Arm). arm.label < m) (map arm_of list)
  arms_below list kept =
      All-map (λ (arm : Arm). arm.label < m) arm_of list
      (All-weaker (λ (arm : arms.Arm). broken scope (label_mention frame arm.label).what ≡ []) (λ (arm : arms.Arm). (arm_of arm).label < m) (λ arm here. label_below arm.label here) list
      (All-from_map IsKept (λ arm. label_mention frame arm.label) list kept))

  switch_below : (s : Switch) → Kept scope (switch_mentions names frame s) → IsEndBelow n m (switch_of paths params s)
  unfolding switch_mentions switch_of
  switch_below s kept =
      let labels = map (λ arm. label_mention frame arm.label) s.arms in
      let before = All-apart IsKept (operand_mentions names frame s.operand ++ labels) (label_mention frame s.otherwise ∷ []) kept in
      let parts = All-apart IsKept (operand_mentions names frame s.operand) labels before.0 in (
        operand_below paths params scope names frame n above s.operand parts.0,
        arms_below s.arms parts.1,
        last_below (operand_mentions names frame s.operand ++ labels) s.otherwise kept,
      )

  call_below : (c : Call) → Kept scope (call_mentions names frame c) → IsEndBelow n m (call_of paths params c)
  unfolding call_mentions call_of
  call_below c kept =
      let to = place_mentions frame c.place in
      let called = called_mentions names frame c.called (length c.operands) in
      let given = operands_mentions names frame c.operands in
      let before = All-apart IsKept (to ++ called ++ given) (label_mention frame c.target ∷ []) kept in
      let others = All-apart IsKept (to ++ called) given before.0 in
      let parts = All-apart IsKept to called others.0 in (
        place_below paths params scope names frame n above c.place parts.0,
        called_below paths params scope names frame n above c.called (length c.operands) parts.1,
        operands_below paths params scope names frame n above c.operands others.1,
        last_below (to ++ called ++ given) c.target kept,
      )

  end_below : (e : End) → Kept scope (end_mentions names frame e) → IsEndBelow n m (end_of paths params e)
  unfolding end_mentions end_of
  end_below ends.Return kept = tt
  end_below ends.Unreachable kept = tt
  end_below (ends.Goto label) kept = last_below [] label kept
  end_below (ends.Switch s) kept = switch_below s kept
  end_below (ends.Call c) kept = call_below c kept
  end_below (ends.Drop place label) kept =
      let apart = All-apart IsKept (place_mentions frame place) (label_mention frame label ∷ []) kept in
      (place_below paths params scope names frame n above place apart.0, last_below (place_mentions frame place) label kept)

  -- ---- blocks

  block_below : (block : Block) → Kept scope (block_mentions names frame block) → written_block block ≡ true → IsBlockBelow n m (block_of paths params block)
  unfolding block_mentions block_of
  block_below block kept written =
      let apart = All-apart IsKept (flat_map (statement_mentions names frame) block.statements) (end_mentions names frame block.end) kept in
      let short = few_statements block written in
      record {
        few = omega (arith, short, length-map block.statements (statement_of paths params));
        statements =
            All-map (IsStatementBelow n) (statement_of paths params) block.statements
            (All-weaker (λ s. Kept scope (statement_mentions names frame s)) (λ s. IsStatementBelow n (statement_of paths params s)) statement_below block.statements
            (All-from_flat_map IsKept (statement_mentions names frame) block.statements apart.0));
        end = end_below block.end apart.1;
      }

  pub blocks_below : (bs : List Block) → Kept scope (flat_map (block_mentions names frame) bs) → list_all written_block bs ≡ true → All (IsBlockBelow n m) (map (block_of paths params) bs)
  blocks_below bs kept written =
      All-map (IsBlockBelow n m) (block_of paths params) bs
      (All-both (λ b. Kept scope (block_mentions names frame b)) (λ b. written_block b ≡ true) (λ b. IsBlockBelow n m (block_of paths params b)) block_below bs
      (All-from_flat_map IsKept (block_mentions names frame) bs kept)
      (AllPass-from_list_all written_block bs written))
