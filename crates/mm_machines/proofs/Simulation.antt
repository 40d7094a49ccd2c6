-- Both machines are seen to do the same.
use Rattle.std.specs.Prelude.{◌≡◌, ℕ, List, map, Option, None, Some, slice_get}
use Rattle.std.specs.Option.{option_map}
use Rattle.std.proofs.Common.{◌∙◌, refl, sym, ap, subst}
use Rattle.std.proofs.lemmas.Option.{slice_get-map}
use Rattle.mm_terms.specs.declared.item.Item.{Item}
use Rattle.mm_plain.specs.declared.program.Block.{Block}
use Rattle.mm_plain.specs.declared.program.Program.{Program}
use Rattle.mm_plain.specs.declared.program.Statement.{Statement}
use Rattle.mm_objects.specs.declared.objects.ObjUnit.{ObjUnit}
use Rattle.mm_objects.specs.declared.target.Target.{Target}
use Rattle.mm_objects.specs.declared.target.VtableId.{VtableId}
use Rattle.mm_machines.specs.Forms.{Shape, Act}
use Rattle.mm_machines.specs.Runs.{Code, placed_at, or_nowhere, observed}
use Rattle.mm_plain.specs.Uses.{type_args, function_of}
use Rattle.mm_plain.specs.Roots.{main_item}
use Rattle.mm_machines.specs.Demand.{Table, body_of, shape_of, demand_statement, demand_block, demand, observed_demand}
use Rattle.mm_machines.specs.Image.{image_instr, image_end, image_block, image, observed_image}
use Rattle.mm_objects.specs.Resolution.{def_blocks, def_at}
use Rattle.mm_objects.specs.Emitted.{AllResolve, block_of, end_of, instr_of}
use Rattle.mm_machines.specs.Agreement.{StandsAt}
use Rattle.mm_machines.proofs.RunLaws.{same_observed}
use Rattle.mm_machines.proofs.Joint.{Both, BothTables, target, left, right, JointAct, statement_joint, end_joint, unreachable_joint}
use Rattle.mm_machines.proofs.Items.{item_code, item_shape}
use Rattle.mm_machines.proofs.Named.{named_is_candidate, statement_names_none}

module _ (p : Program) (items : List Item) (us : List ObjUnit) where
  abbrev Joint : Act Target VtableId → Act Item Table → Type 0
  Joint = JointAct p items us

  -- a statement of a block and the statement of the block that it was compiled to
  placed_joint : (q : Both p items us) (a : Act Target VtableId) (b : Act Item Table) → Joint a b → (o : Option Statement) → Joint (placed_at Target VtableId (image_instr (target p items us q)) a (option_map instr_of o)) (placed_at Item Table (demand_statement q.item) b o)
  placed_joint q a b j None = j
  placed_joint q a b j (Some s) = statement_joint p items us q s (λ y has. absurd (statement_names_none p items us q.item s y has))

  block_joint : AllResolve p items us → (q : Both p items us) (k index : ℕ) (b : Block) → slice_get (body_of (function_of p q.item)) k ≡ Some b → Joint (image_block us (target p items us q) index (block_of p (type_args q.item) b)) (demand_block p q.item index b)
  block_joint all q k index b at =
      let at_end = end_joint p items us q b.end (λ y has. all q.one q.item y q.there q.of_item (named_is_candidate p items us q.item k b y at has)) in
      subst (λ o. Joint (placed_at Target VtableId (image_instr (target p items us q)) (image_end us (target p items us q) (end_of p (type_args q.item) b.end)) o) (demand_block p q.item index b))
      (sym (slice_get-map instr_of b.statements index))
      (placed_joint q _ _ at_end (slice_get b.statements index))

  somewhere_joint : AllResolve p items us → (q : Both p items us) (k index : ℕ) (o : Option Block) → slice_get (body_of (function_of p q.item)) k ≡ o → Joint (or_nowhere Target VtableId (image_block us (target p items us q) index) (option_map (block_of p (type_args q.item)) o)) (or_nowhere Item Table (demand_block p q.item index) o)
  somewhere_joint all q k index None at = unreachable_joint p items us
  somewhere_joint all q k index (Some b) at = block_joint all q k index b at

  code_law : (q : Both p items us) → def_blocks (def_at us (target p items us q)) ≡ map (block_of p (type_args q.item)) (body_of (function_of p q.item))
  code_law q = item_code p items us q.one q.item q.there q.of_item

  code_joint : AllResolve p items us → (q : Both p items us) (k index : ℕ) → Joint (image us (target p items us q) k index) (demand p q.item k index)
  code_joint all q k index =
      let body = body_of (function_of p q.item) in
      let is = ap (λ code. slice_get code k) (code_law q) ∙ slice_get-map (block_of p (type_args q.item)) body k in
      subst (λ o. Joint (or_nowhere Target VtableId (image_block us (target p items us q) index) o) (demand p q.item k index)) (sym is)
      (somewhere_joint all q k index (slice_get body k) refl)

  -- from an item and a definition of it both machines are seen to do the same
  same_seen : AllResolve p items us → (q : Both p items us) (n : ℕ) → observed_image us (target p items us q) n ≡ observed Item Table (demand p) q.item (shape_of (function_of p q.item)) n
  same_seen all q n =
      let both : Code (Both p items us) (BothTables p items us) = λ f k index. (code_joint all f k index).both in
      let shape : Shape = shape_of (function_of p q.item) in
      ap (λ s. observed Target VtableId (image us) (target p items us q) s n) (item_shape p items us q.one q.item q.there q.of_item)
      ∙ sym (same_observed (Both p items us) (BothTables p items us) Target VtableId (left p items us) both (image us) (λ f k index. (code_joint all f k index).on_left) q shape n)
      ∙ same_observed (Both p items us) (BothTables p items us) Item Table (right p items us) both (demand p) (λ f k index. (code_joint all f k index).on_right) q shape n

  pub simulates : (main : Target) (n : ℕ) → AllResolve p items us → StandsAt p items us (main_item p) main → observed_image us main n ≡ observed_demand p n
  simulates main n all at_main =
      ap (λ t. observed_image us t n) at_main.at
      ∙ same_seen all (record { one = at_main.one; item = main_item p; there = at_main.there; of_item = at_main.of_item }) n
