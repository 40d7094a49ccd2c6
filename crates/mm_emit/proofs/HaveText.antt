-- The objects of complete items have a text.
use Rattle.std.proofs.Common.{◌≡◌, ℕ, ◌≤◌, List, [], ◌∷◌, ◌++◌, map, length, codes, true, Some, refl, sym, ◌∙◌, ap, subst, arith}
use Rattle.std.specs.declared.option.Option.{Option}
use Rattle.std.specs.Prelude.{All, Contains}
use Rattle.std.proofs.lemmas.List.{append_assoc, append-nil, length-map}
use Rattle.std.proofs.lemmas.List.Elements.{All-nil, All-cons, All-head, All-contains, All-map}
use Rattle.mm_terms.specs.declared.tree.Tree.{Tree}
use Rattle.mm_terms.specs.declared.item.Item.{Item}
use Rattle.mm_terms.specs.declared.item.Item.TheVariants.{Fn, Glue, Shim, Static}
use Rattle.mm_terms.specs.Order.{types_of}
use Rattle.mm_plain.specs.declared.program.Program.{Program}
use Rattle.mm_plain.specs.declared.program.Function.{Function}
use Rattle.mm_plain.specs.declared.program.Block.{Block}
use Rattle.mm_plain.specs.declared.program.Place.{Place}
use Rattle.mm_plain.specs.declared.program.Statement.{Statement}
use Rattle.mm_plain.specs.declared.program.Statement.TheVariants as statement
use Rattle.mm_plain.specs.declared.program.Rvalue.{Rvalue}
use Rattle.mm_plain.specs.declared.program.Rvalue.TheVariants as rvalue
use Rattle.mm_plain.specs.declared.program.Operand.{Operand}
use Rattle.mm_plain.specs.declared.program.Operand.TheVariants as operand
use Rattle.mm_plain.specs.declared.program.Arm.{Arm}
use Rattle.mm_plain.specs.declared.program.End.{End}
use Rattle.mm_plain.specs.declared.program.End.TheVariants as end
use Rattle.mm_plain.specs.Roots.{main_item}
use Rattle.mm_plain.specs.Uses.{end_calls, calls_of, called, body_candidates, candidates_of}
use Rattle.mm_plain.specs.WellFormed.{IsBlockIn, IsEndIn, IsFunctionIn, IsInstanceIn, IsLabelOf, IsOperandOf, IsPlaceOf, IsRvalueOf, IsStatementOf}
use Rattle.mm_terms.proofs.ListLemmas.{All-slice_get, All-from_map, All-both, All-from_contains, All-from_flat_map}
use Rattle.mm_names.specs.Names.{IsName}
use Rattle.mm_symbols.specs.ItemForms.{form_of, depth_of}
use Rattle.mm_symbols.specs.SymbolForms.{IsSymbolOf}
use Rattle.mm_symbols.proofs.ItemLaws.{form_within}
use Rattle.mm_symbols.proofs.InstanceItems.{instance_is_item}
use Rattle.mm_objects.specs.declared.objects.Objects.{Objects}
use Rattle.mm_objects.specs.declared.objects.ObjUnit.{ObjUnit}
use Rattle.mm_objects.specs.declared.objects.Linkage.TheVariants.{External}
use Rattle.mm_objects.specs.ObjectNames.{IsCodeSymbol, IsUnitName}
use Rattle.mm_objects.specs.ObjectForms.{AreObjects, IsArm, IsBlock, IsBelow, IsDef, IsEnd, IsInstr, IsOperand, IsPlace, IsRvalue, IsUnit}
use Rattle.mm_objects.specs.Emitted.{AreObjectsOf, AreUnitsOf, IsUnitOf, block_of, code_of, def_of, end_of, instr_of, item_symbol, operand_of, place_of, rvalue_of, whole_crate}
use Rattle.mm_emit.specs.Complete.{IsComplete}
use Rattle.mm_emit.specs.Numbers.{FitsArm, FitsBlock, FitsDef, FitsEnd, FitsInstr, FitsOperand, FitsRvalue, FitsUnit, NumbersFit}
use Rattle.mm_emit.proofs.References.{def_from}
use Rattle.mm_emit.proofs.OwnSymbols.{own_symbols}

-- ---- bodies

module _ (f : Function) (few : length f.locals ≤ 65536) where
  place : (at : Place) → IsPlaceOf f at → IsPlace (length f.locals) (place_of at)
  place at is = (is, omega (arith, is, few))

  read : (o : Operand) → IsOperandOf f o → FitsOperand (operand_of o) → IsOperand (length f.locals) (operand_of o)
  read (operand.Copy at) is fits = place at is
  read (operand.Move at) is fits = place at is
  read (operand.Num n) is fits = fits
  read (operand.Truth b) is fits = tt

  reads : (os : List Operand) → All (IsOperandOf f) os → All FitsOperand (map operand_of os) → All (IsOperand (length f.locals)) (map operand_of os)
  reads os are fit =
      All-map (IsOperand (length f.locals)) operand_of os
      (All-both (IsOperandOf f) (λ o. FitsOperand (operand_of o)) (λ o. IsOperand (length f.locals) (operand_of o)) read os are (All-from_map FitsOperand operand_of os fit))

  value : (r : Rvalue) → IsRvalueOf f r → FitsRvalue (rvalue_of r) → IsRvalue (length f.locals) (rvalue_of r)
  value (rvalue.Use o) is fits = read o is fits
  value (rvalue.Not o) is fits = read o is fits
  value (rvalue.Binary op a b) is fits = (read a is.0 fits.0, read b is.1 fits.1)

  instr : (s : Statement) → IsStatementOf f s → FitsInstr (instr_of s) → IsInstr (length f.locals) (instr_of s)
  instr (statement.Set at made) is fits = (place at is.0, value made is.1 fits)
  instr (statement.Print o) is fits = read o is fits

  module _ (p : Program) (items : List Item) (args : List Tree) (code : (x : Item) → Contains items x → IsCodeSymbol (item_symbol p x)) (blocks : ℕ) (as_many : blocks ≡ length f.blocks) (few_blocks : length f.blocks ≤ 65536) where
    label : (k : ℕ) → IsLabelOf f k → IsBelow blocks k
    label k is = (omega (arith, is, as_many), omega (arith, is, few_blocks))

    arm : (one : Arm) → IsLabelOf f one.label → FitsArm one → IsArm blocks one
    arm one is fits = (fits, label one.label is)

    ending : (e : End) → IsEndIn p f e → All (λ call. Contains items (called args call)) (end_calls e) → FitsEnd (end_of p args e) → IsEnd (length f.locals) blocks (end_of p args e)
    ending end.Return is used fits = tt
    ending end.Unreachable is used fits = tt
    ending (end.Goto k) is used fits = label k is
    ending (end.Switch o arms other) is used fits =
        (read o is.0 fits.0, All-both (λ one. IsLabelOf f one.label) FitsArm (IsArm blocks) arm arms is.1 fits.1, label other is.2)
    ending (end.Call call) is used fits =
        (place call.place is.place, code (called args call) (All-head (λ c. Contains items (called args c)) call [] used), reads call.operands is.operands fits, label call.target is.target)

    abbrev Used : Block → Type 0
    Used b = All (λ call. Contains items (called args call)) (end_calls b.end)

    block : (b : Block) → IsBlockIn p f b → Used b × FitsBlock (block_of p args b) → IsBlock (length f.locals) blocks (block_of p args b)
    block b is more =
        record {
          instrs =
              All-map (IsInstr (length f.locals)) instr_of b.statements
              (All-both (IsStatementOf f) (λ s. FitsInstr (instr_of s)) (λ s. IsInstr (length f.locals) (instr_of s)) instr b.statements is.statements (All-from_map FitsInstr instr_of b.statements more.1.0));
          end = ending b.end is.end more.0 more.1.1;
        }

    body : (bs : List Block) → All (IsBlockIn p f) bs → All Used bs → All FitsBlock (map (block_of p args) bs) → All (IsBlock (length f.locals) blocks) (map (block_of p args) bs)
    body bs are used fit =
        All-map (IsBlock (length f.locals) blocks) (block_of p args) bs
        (All-both (IsBlockIn p f) (λ b. Used b × FitsBlock (block_of p args b)) (λ b. IsBlock (length f.locals) blocks (block_of p args b)) block bs are
        (All-both Used (λ b. FitsBlock (block_of p args b)) (λ b. Used b × FitsBlock (block_of p args b)) (λ b u v. (u, v)) bs used (All-from_map FitsBlock (block_of p args) bs fit)))

-- ---- definitions

module _ (p : Program) (items : List Item) (is : IsComplete p items) where
  instance_of : (x : Item) → Contains items x → IsInstanceIn p x
  instance_of x here = All-contains (IsInstanceIn p) items x is.instances here

  code_of_instance : (x : Item) → IsInstanceIn p x → IsSymbolOf (form_of p x) (item_symbol p x) → IsCodeSymbol (item_symbol p x)
  code_of_instance (Fn d args) instance symbol = record { form = form_of p (Fn d args); symbol = symbol; code = refl }
  code_of_instance (Glue t) instance symbol = absurd instance
  code_of_instance (Shim t) instance symbol = absurd instance
  code_of_instance (Static d) instance symbol = absurd instance

  -- what is written for an item is a symbol of code
  code_symbol : (x : Item) → Contains items x → IsCodeSymbol (item_symbol p x)
  code_symbol x here =
      code_of_instance x (instance_of x here) (record {
        formed = form_within p is.names 4096 x (instance_is_item p x (instance_of x here)) (All-contains (λ y. All (λ t. depth_of t ≤ 4096) (types_of y)) items x is.shallow here);
        is = refl;
      })

  function_def : (x : Item) (args : List Tree) (f : Function) → IsFunctionIn p f → IsCodeSymbol (item_symbol p x) → All (Contains items) (body_candidates args (Some f)) → FitsDef (code_of p (item_symbol p x) External args (Some f)) → IsDef (code_of p (item_symbol p x) External args (Some f))
  function_def x args f well symbol used fits =
      let as_many : length (map (block_of p args) f.blocks) ≡ length f.blocks = length-map f.blocks (block_of p args) in
      let calls = All-from_flat_map (λ call. Contains items (called args call)) (λ b. end_calls b.end) f.blocks (All-from_map (Contains items) (called args) (calls_of f) used) in
      record {
        symbol_is = symbol;
        above_params = omega (arith, well.locals);
        few_locals = well.few_locals;
        some_block = omega (arith, well.some_block, as_many);
        few_blocks = omega (arith, well.few_blocks, as_many);
        each = body f well.few_locals p items args code_symbol (length (map (block_of p args) f.blocks)) as_many well.few_blocks f.blocks well.blocks calls fits;
      }

  item_def : (x : Item) → Contains items x → IsInstanceIn p x → FitsDef (def_of p External x) → IsDef (def_of p External x)
  item_def (Fn d args) here instance fits =
      let named = instance.named in
      let used : All (Contains items) (candidates_of p (Fn d args)) = All-from_contains (Contains items) (candidates_of p (Fn d args)) (λ y there. is.uses (Fn d args) y here there) in
      subst (λ (o : Option Function). IsDef (code_of p (item_symbol p (Fn d args)) External args o)) (sym named)
      (function_def (Fn d args) args instance.function
      (All-slice_get (IsFunctionIn p) p.functions d.0 instance.function is.well_formed.functions named)
      (code_symbol (Fn d args) here)
      (subst (λ (o : Option Function). All (Contains items) (body_candidates args o)) named used)
      (subst (λ (o : Option Function). FitsDef (code_of p (item_symbol p (Fn d args)) External args o)) named fits))
  item_def (Glue t) here instance fits = absurd instance
  item_def (Shim t) here instance fits = absurd instance
  item_def (Static d) here instance fits = absurd instance

  -- ---- units and objects

  unit_name : (u : ObjUnit) → IsUnitOf p (whole_crate p items) u → IsUnitName u.name
  unit_name u of =
      record {
        krate = p.krate;
        names = p.krate ∷ [];
        stable = true;
        krate_is = is.krate;
        path_is = record { some = λ none. absurd (omega (arith, ap length none)); each = All-cons IsName p.krate [] is.krate (All-nil IsName) };
        is =
            of.name ∙ ap (λ name. p.krate ++ codes "/" ++ name ++ codes ".stable") (sym (append-nil p.krate))
            ∙ sym (append_assoc (p.krate ++ codes "/" ++ (p.krate ++ [])) (codes ".") (codes "stable"));
      }

  unit_is : (u : ObjUnit) → IsUnitOf p (whole_crate p items) u → FitsUnit u → IsUnit u
  unit_is u of fits =
      record {
        name_is = unit_name u of;
        each = All-from_contains IsDef u.defs (λ d here.
            let from = def_from p items u of (own_symbols p items is) d here in
            subst IsDef (sym from.2) (item_def from.0 from.1 (instance_of from.0 from.1) (subst FitsDef from.2 (All-contains FitsDef u.defs d fits here))));
      }

  units_are : (us : List ObjUnit) → AreUnitsOf p (whole_crate p items ∷ []) us → All FitsUnit us → All IsUnit us × (length us ≡ 1)
  units_are [] of fit = absurd of
  units_are (u ∷ []) of fit = (All-cons IsUnit u [] (unit_is u of.0 (All-head FitsUnit u [] fit)) (All-nil IsUnit), refl)
  units_are (u ∷ v ∷ more) of fit = absurd of.1

  pub have_text : (objects : Objects) → AreObjectsOf p (whole_crate p items ∷ []) objects → NumbersFit objects → AreObjects objects × (length objects.units ≡ 1)
  have_text objects of fit =
      let units = units_are objects.units of.units fit in
      (record { main_is = subst IsCodeSymbol (sym of.main) (code_symbol (main_item p) is.main); each = units.0 }, units.1)
