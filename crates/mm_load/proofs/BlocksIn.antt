-- Blocks of the program, where what they mention breaks no rule.
use Rattle.std.proofs.Common.{◌≡◌, ℕ, ◌<◌, ◌^◌, List, [], ◌∷◌, ◌++◌, ◌&&◌, length, map, true, sym, subst, arith}
use Rattle.std.specs.List.{flat_map, list_all}
use Rattle.std.specs.Prelude.{All}
use Rattle.std.proofs.lemmas.Bool.{ltb-true}
use Rattle.std.proofs.lemmas.List.{length-map}
use Rattle.std.proofs.lemmas.List.Elements.{All-map}
use Rattle.std.proofs.lemmas.List.Sums.{AllPass-from_list_all}
use Rattle.mm_ast.specs.declared.bodies.Block as blocks
use Rattle.mm_ast.specs.declared.bodies.Call.{Call}
use Rattle.mm_ast.specs.declared.bodies.DynTrait.{DynTrait}
use Rattle.mm_ast.specs.declared.bodies.End.{End}
use Rattle.mm_ast.specs.declared.bodies.End.TheVariants as ends
use Rattle.mm_ast.specs.declared.bodies.New.{New}
use Rattle.mm_ast.specs.declared.bodies.Rvalue.{Rvalue}
use Rattle.mm_ast.specs.declared.bodies.Rvalue.TheVariants as rvalues
use Rattle.mm_ast.specs.declared.bodies.Statement.{Statement}
use Rattle.mm_ast.specs.declared.bodies.Statement.TheVariants as statements
use Rattle.mm_ast.specs.declared.bodies.Switch.{Switch}
use Rattle.mm_definitions.specs.declared.kinds.Kind.TheVariants as kinds
use Rattle.mm_definitions.specs.declared.kinds.Wanted.TheVariants as wants
use Rattle.mm_lower.specs.Bodies.{arm_of, made_of, variant_of, new_of, rvalue_of, statement_of, switch_of, call_of, end_of, block_of}
use Rattle.mm_lower.specs.Callees.{operand_of, called_of}
use Rattle.mm_lower.specs.Params.{Params}
use Rattle.mm_lower.specs.Paths.{Paths, def_of}
use Rattle.mm_lower.specs.Types.{types_of, dyn_type_of}
use Rattle.mm_mentions.specs.BodyMentions.{place_mentions, dyn_trait_mentions, operand_mentions, operands_mentions, made_mentions, called_mentions, rvalue_mentions, statement_mentions, switch_mentions, call_mentions, end_mentions, block_mentions}
use Rattle.mm_mentions.specs.CalleeMentions.{new_mentions}
use Rattle.mm_mentions.specs.declared.frame.Frame.{Frame}
use Rattle.mm_mentions.specs.declared.mention.Mention.{Mention}
use Rattle.mm_mentions.specs.Frames.{label_mention}
use Rattle.mm_mentions.specs.Scopes as mentions
use Rattle.mm_mentions.specs.TypeMentions as mentioned
use Rattle.mm_program.specs.declared.parts.Parts.{Parts}
use Rattle.mm_program.specs.Bodies.{IsNewIn, IsDynHead, IsRvalueIn, IsStatementIn, IsEndIn, IsBlockIn, Takes}
use Rattle.mm_resolve.specs.Scopes.{Scope, leads_to}
use Rattle.mm_rules.specs.MentionRules.{broken}
use Rattle.mm_terms.specs.declared.ty_head.TyHead.TheVariants as head
use Rattle.mm_terms.specs.Lists.{All-apart}
use Rattle.mm_terms.specs.Tree as tree
use Rattle.mm_terms.proofs.ListLemmas.{and_left, and_right, All-both, All-from_flat_map}
use Rattle.mm_written.specs.Bodies.{written_place, written_operand, written_operands, written_new, written_dyn, written_rvalue, written_statement, written_switch, written_called, written_call, written_end, written_block}
use Rattle.mm_written.specs.Lists.{few}
use Rattle.mm_written.specs.Names.{written_variant_name}
use Rattle.mm_written.specs.Types.{written_args, written_type}
use Rattle.mm_load.specs.Leads.{Leads, Kept, InScope}
use Rattle.mm_load.proofs.CalleesIn.{place_in, operand_in, operands_in, called_in, called_takes, new_in}
use Rattle.mm_load.proofs.SignaturesIn.{dyn_in}
use Rattle.mm_load.proofs.TypesIn.{written_in}

-- what a `dyn` type has at its head
dyn_head : (paths : Paths) (params : Params) (d : DynTrait) → IsDynHead (tree.head_of (dyn_type_of paths params d))
unfolding dyn_type_of
dyn_head paths params d =
    let head = head.Dyn (def_of paths (wants.One kinds.Trait) d.of.path) in
    subst IsDynHead (sym (tree.head_of-node head (types_of paths params d.of.args))) tt

few_arms : (s : Switch) → written_switch s ≡ true → length s.arms < 2 ^ 32
unfolding written_switch few
few_arms s written = ltb-true (length s.arms) 4294967296 (and_right (written_operand s.operand) (few s.arms) written)

each_statement : (block : blocks.Block) → written_block block ≡ true → (list_all written_statement block.statements ≡ true) × (written_end block.end ≡ true)
unfolding written_block
each_statement block written =
    let few_each = few block.statements && list_all written_statement block.statements in
    (and_right (few block.statements) (list_all written_statement block.statements) (and_left few_each (written_end block.end) written), and_right few_each (written_end block.end) written)

module _ (p : Parts) (scope : Scope) (leads : Leads p (leads_to scope)) (names : mentions.Scope) (params : Params) (n : ℕ) (in_scope : InScope names params n) where
  abbrev IsKept : Mention → Type 0
  IsKept m = broken scope m.what ≡ []

  -- ---- statements

  made_in : (frame : Frame) (new : New) → Kept scope (made_mentions names frame new) → written_new new ≡ true → IsRvalueIn p n (new_of (leads_to scope) params new)
  unfolding new_of written_new
  made_in frame new kept written =
      let apart = All-apart IsKept (new_mentions names new.of new.variant (length new.operands)) (operands_mentions names frame new.operands) kept in
      let named = and_left (written_args new.of && written_variant_name new.variant) (written_operands new.operands) written in
      let is =
      new_in p scope leads names params n in_scope new.of new.variant (length new.operands) apart.0
      (and_left (written_args new.of) (written_variant_name new.variant) named)
      (and_right (written_args new.of) (written_variant_name new.variant) named)
      in (
        subst
            (λ k. IsNewIn p n (made_of (leads_to scope) new.of new.variant) (types_of (leads_to scope) params new.of.args) (variant_of (leads_to scope) new.of new.variant) k)
            (sym (length-map new.operands (operand_of (leads_to scope) params)))
            is,
        operands_in p scope leads names params n in_scope frame new.operands apart.1 (and_right (written_args new.of && written_variant_name new.variant) (written_operands new.operands) written),
      )

  rvalue_in : (frame : Frame) (made : Rvalue) → Kept scope (rvalue_mentions names frame made) → written_rvalue made ≡ true → IsRvalueIn p n (rvalue_of (leads_to scope) params made)
  unfolding rvalue_mentions rvalue_of written_rvalue
  rvalue_in frame (rvalues.Use only) kept written = operand_in p scope leads names params n in_scope frame only kept written
  rvalue_in frame (rvalues.Ref place) kept written = place_in p scope leads names params n in_scope frame place kept written
  rvalue_in frame (rvalues.Not only) kept written = operand_in p scope leads names params n in_scope frame only kept written
  rvalue_in frame (rvalues.Binary op left right) kept written =
      let apart = All-apart IsKept (operand_mentions names frame left) (operand_mentions names frame right) kept in (
        operand_in p scope leads names params n in_scope frame left apart.0 (and_left (written_operand left) (written_operand right) written),
        operand_in p scope leads names params n in_scope frame right apart.1 (and_right (written_operand left) (written_operand right) written),
      )
  rvalue_in frame (rvalues.Variant place) kept written = place_in p scope leads names params n in_scope frame place kept written
  rvalue_in frame (rvalues.Boxed only) kept written = operand_in p scope leads names params n in_scope frame only kept written
  rvalue_in frame (rvalues.Tuple parts) kept written = operands_in p scope leads names params n in_scope frame parts kept written
  rvalue_in frame (rvalues.New new) kept written = made_in frame new kept written
  rvalue_in frame (rvalues.Dyn only behind to) kept written =
      let apart = All-apart IsKept (operand_mentions names frame only ++ mentioned.written_type names behind) (dyn_trait_mentions names to) kept in
      let first = All-apart IsKept (operand_mentions names frame only) (mentioned.written_type names behind) apart.0 in
      let before = and_left (written_operand only && written_type behind) (written_dyn to) written in (
        operand_in p scope leads names params n in_scope frame only first.0 (and_left (written_operand only) (written_type behind) before),
        written_in p scope leads names params n in_scope behind first.1 (and_right (written_operand only) (written_type behind) before),
        dyn_in p scope leads names params n in_scope to apart.1 (and_right (written_operand only && written_type behind) (written_dyn to) written),
        dyn_head (leads_to scope) params to,
      )

  statement_in : (frame : Frame) (s : Statement) → Kept scope (statement_mentions names frame s) → written_statement s ≡ true → IsStatementIn p n (statement_of (leads_to scope) params s)
  unfolding statement_mentions statement_of written_statement
  statement_in frame (statements.Set place made) kept written =
      let apart = All-apart IsKept (place_mentions frame place) (rvalue_mentions names frame made) kept in (
        place_in p scope leads names params n in_scope frame place apart.0 (and_left (written_place place) (written_rvalue made) written),
        rvalue_in frame made apart.1 (and_right (written_place place) (written_rvalue made) written),
      )
  statement_in frame (statements.Print only) kept written = operand_in p scope leads names params n in_scope frame only kept written

  -- ---- ends

  switch_in : (frame : Frame) (s : Switch) → Kept scope (switch_mentions names frame s) → written_switch s ≡ true → IsEndIn p n (switch_of (leads_to scope) params s)
  unfolding switch_mentions switch_of written_switch
  switch_in frame s kept written =
      let labels = map (λ arm. label_mention frame arm.label) s.arms in
      let before = All-apart IsKept (operand_mentions names frame s.operand ++ labels) (label_mention frame s.otherwise ∷ []) kept in
      let first = All-apart IsKept (operand_mentions names frame s.operand) labels before.0 in
      let short = few_arms s written in (
        operand_in p scope leads names params n in_scope frame s.operand first.0 (and_left (written_operand s.operand) (few s.arms) written),
        omega (arith, short, length-map s.arms arm_of),
      )

  call_in : (frame : Frame) (c : Call) → Kept scope (call_mentions names frame c) → written_call c ≡ true → IsEndIn p n (call_of (leads_to scope) params c)
  unfolding call_mentions call_of written_call
  call_in frame c kept written =
      let to = place_mentions frame c.place in
      let called = called_mentions names frame c.called (length c.operands) in
      let given = operands_mentions names frame c.operands in
      let apart = All-apart IsKept (to ++ called ++ given) (label_mention frame c.target ∷ []) kept in
      let others = All-apart IsKept (to ++ called) given apart.0 in
      let first = All-apart IsKept to called others.0 in
      let before = and_left (written_place c.place && written_called c.called) (written_operands c.operands) written in
      let is_called = and_right (written_place c.place) (written_called c.called) before in (
        place_in p scope leads names params n in_scope frame c.place first.0 (and_left (written_place c.place) (written_called c.called) before),
        called_in p scope leads names params n in_scope frame c.called (length c.operands) first.1 is_called,
        operands_in p scope leads names params n in_scope frame c.operands others.1 (and_right (written_place c.place && written_called c.called) (written_operands c.operands) written),
        subst (λ k. Takes p (called_of (leads_to scope) params c.called) k) (sym (length-map c.operands (operand_of (leads_to scope) params)))
            (called_takes p scope leads names params n in_scope frame c.called (length c.operands) first.1 is_called),
      )

  end_in : (frame : Frame) (e : End) → Kept scope (end_mentions names frame e) → written_end e ≡ true → IsEndIn p n (end_of (leads_to scope) params e)
  unfolding end_mentions end_of written_end
  end_in frame ends.Return kept written = tt
  end_in frame ends.Unreachable kept written = tt
  end_in frame (ends.Goto label) kept written = tt
  end_in frame (ends.Switch s) kept written = switch_in frame s kept written
  end_in frame (ends.Call c) kept written = call_in frame c kept written
  end_in frame (ends.Drop place label) kept written =
      place_in p scope leads names params n in_scope frame place (All-apart IsKept (place_mentions frame place) (label_mention frame label ∷ []) kept).0 written

  -- ---- blocks

  block_in : (frame : Frame) (block : blocks.Block) → Kept scope (block_mentions names frame block) → written_block block ≡ true → IsBlockIn p n (block_of (leads_to scope) params block)
  unfolding block_mentions block_of
  block_in frame block kept written =
      let apart = All-apart IsKept (flat_map (statement_mentions names frame) block.statements) (end_mentions names frame block.end) kept in
      let are = each_statement block written in
      record {
        statements =
            All-map (IsStatementIn p n) (statement_of (leads_to scope) params) block.statements
            (All-both (λ s. Kept scope (statement_mentions names frame s)) (λ s. written_statement s ≡ true) (λ s. IsStatementIn p n (statement_of (leads_to scope) params s)) (statement_in frame) block.statements
            (All-from_flat_map IsKept (statement_mentions names frame) block.statements apart.0)
            (AllPass-from_list_all written_statement block.statements are.0));
        end = end_in frame block.end apart.1 are.1;
      }

  pub blocks_in : (frame : Frame) (bs : List blocks.Block) → Kept scope (flat_map (block_mentions names frame) bs) → list_all written_block bs ≡ true
      → All (IsBlockIn p n) (map (block_of (leads_to scope) params) bs)
  blocks_in frame bs kept written =
      All-map (IsBlockIn p n) (block_of (leads_to scope) params) bs
      (All-both (λ b. Kept scope (block_mentions names frame b)) (λ b. written_block b ≡ true) (λ b. IsBlockIn p n (block_of (leads_to scope) params b)) (block_in frame) bs
      (All-from_flat_map IsKept (block_mentions names frame) bs kept)
      (AllPass-from_list_all written_block bs written))
