-- Both machines at once. What a form does in a definition of an item, and what it does in the item, are two sides of one
-- step of a third machine, in which a function is an item together with a definition of it. One law a form.
use Rattle.std.specs.Prelude.{◌≡◌, ℕ, Bool, List, [], ◌∷◌, ◌++◌, map, flat_map}
use Rattle.std.specs.Option.{option_map}
use Rattle.std.specs.List.{Contains}
use Rattle.std.proofs.Common.{◌∙◌, refl, sym, ap, arith}
use Rattle.std.proofs.lemmas.List.Elements.{Contains-append_left, Contains-append_right}
use Rattle.mm_terms.specs.declared.item.Item.{Item}
use Rattle.mm_plain.specs.declared.program.Arm.{Arm}
use Rattle.mm_plain.specs.declared.program.Call.{Call}
use Rattle.mm_plain.specs.declared.program.End.{End}
use Rattle.mm_plain.specs.declared.program.End.TheVariants as end
use Rattle.mm_plain.specs.declared.program.Op.{Op}
use Rattle.mm_plain.specs.declared.program.Operand.{Operand}
use Rattle.mm_plain.specs.declared.program.Operand.TheVariants as operand
use Rattle.mm_plain.specs.declared.program.Place.{Place}
use Rattle.mm_plain.specs.declared.program.Program.{Program}
use Rattle.mm_plain.specs.declared.program.Rvalue.{Rvalue}
use Rattle.mm_plain.specs.declared.program.Rvalue.TheVariants as rvalue
use Rattle.mm_plain.specs.declared.program.Statement.{Statement}
use Rattle.mm_plain.specs.declared.program.Statement.TheVariants as statement
use Rattle.mm_objects.specs.declared.objects.ObjUnit.{ObjUnit}
use Rattle.mm_objects.specs.declared.target.Target.{Target}
use Rattle.mm_objects.specs.declared.target.VtableId.{VtableId}
use Rattle.mm_machines.specs.Forms.{Shape, Find, Eval, Act, local, number, boolean, copy, move, negation, binary, set, print, goto, unreachable, switch, call, return}
use Rattle.mm_plain.specs.Uses.{type_args, function_of, called}
use Rattle.mm_machines.specs.Demand.{Table, shape_of, demand_place, demand_operand, demand_rvalue, demand_statement, demand_end}
use Rattle.mm_machines.specs.Image.{def_shape, image_place, image_operand, image_rvalue, image_instr, call_found, image_end}
use Rattle.mm_objects.specs.Resolution.{def_at, target_of, find_in, Placed, placed}
use Rattle.mm_objects.specs.Emitted.{IsOf, Resolves, end_of, instr_of, item_symbol, operand_of, place_of, rvalue_of}
use Rattle.mm_machines.proofs.Renaming.{Renaming}
use Rattle.mm_machines.proofs.FormLaws.{SameFind, SameEval, SameEvals, SameAct, state_renamed, local_law, number_law, boolean_law, copy_law, move_law, negation_law, binary_law, set_law, print_law, goto_law, unreachable_law, switch_law, call_law, return_law}
use Rattle.mm_objects.proofs.Standing.{resolved_among}
use Rattle.mm_machines.proofs.Items.{item_shape}

module _ (p : Program) (items : List Item) (us : List ObjUnit) where
  -- an item, and a definition of it
  pub record Both : Type 0 where
    pub one : Placed
    pub item : Item
    pub there : Contains (placed us) one
    pub of_item : IsOf p items item one.def

  -- where the definition stands
  abbrev pub target : Both → Target
  target q = target_of q.one

  abbrev pub BothTables : Type 0
  BothTables = VtableId × Table

  -- the side of the image, and that of the program
  abbrev pub left : Renaming Both BothTables Target VtableId
  left = record { function = target; table = λ v. v.0 }

  abbrev pub right : Renaming Both BothTables Item Table
  right = record { function = λ q. q.item; table = λ v. v.1 }

  -- two are the sides of one
  pub record JointFind (a : Find Target VtableId) (b : Find Item Table) : Type 0 where
    pub both : Find Both BothTables
    pub on_left : SameFind Both BothTables Target VtableId left both a
    pub on_right : SameFind Both BothTables Item Table right both b

  pub record JointEval (a : Eval Target VtableId) (b : Eval Item Table) : Type 0 where
    pub both : Eval Both BothTables
    pub on_left : SameEval Both BothTables Target VtableId left both a
    pub on_right : SameEval Both BothTables Item Table right both b

  pub record JointEvals (es : List (Eval Target VtableId)) (ds : List (Eval Item Table)) : Type 0 where
    pub both : List (Eval Both BothTables)
    pub on_left : SameEvals Both BothTables Target VtableId left both es
    pub on_right : SameEvals Both BothTables Item Table right both ds

  pub record JointAct (a : Act Target VtableId) (b : Act Item Table) : Type 0 where
    pub both : Act Both BothTables
    pub on_left : SameAct Both BothTables Target VtableId left both a
    pub on_right : SameAct Both BothTables Item Table right both b

  -- in the unit of the definition, what the form names resolves
  abbrev pub Found : Both → List Item → Type 0
  Found q ys = (y : Item) → Contains ys y → Resolves p items us q.one.unit y

  -- ---- places

  local_joint : (k : ℕ) → JointFind (local Target VtableId k) (local Item Table k)
  local_joint k = record {
    both = local Both BothTables k;
    on_left = local_law Both BothTables Target VtableId left k;
    on_right = local_law Both BothTables Item Table right k;
  }

  -- the items that each form names: so far only calls name any

  abbrev pub named_in_place : Item → Place → List Item
  named_in_place x place = []

  abbrev pub named_in_operand : Item → Operand → List Item
  named_in_operand x (operand.Copy place) = named_in_place x place
  named_in_operand x (operand.Move place) = named_in_place x place
  named_in_operand x _ = []

  abbrev pub named_in_operands : Item → List Operand → List Item
  named_in_operands x os = flat_map (named_in_operand x) os

  abbrev pub named_in_rvalue : Item → Rvalue → List Item
  named_in_rvalue x (rvalue.Use o) = named_in_operand x o
  named_in_rvalue x (rvalue.Not o) = named_in_operand x o
  named_in_rvalue x (rvalue.Binary op a b) = named_in_operand x a ++ named_in_operand x b

  abbrev pub named_in_statement : Item → Statement → List Item
  named_in_statement x (statement.Set place r) = named_in_place x place ++ named_in_rvalue x r
  named_in_statement x (statement.Print o) = named_in_operand x o

  abbrev pub named_in_call : Item → Call → List Item
  named_in_call x c = called (type_args x) c ∷ (named_in_operands x c.operands ++ named_in_place x c.place)

  abbrev pub named_in_end : Item → End → List Item
  named_in_end x (end.Switch o arms other) = named_in_operand x o
  named_in_end x (end.Call c) = named_in_call x c
  named_in_end x _ = []

  place_joint : (q : Both) (place : Place) → Found q (named_in_place q.item place) → JointFind (image_place (target q) (place_of place)) (demand_place q.item place)
  place_joint q place found = local_joint place.local

  -- ---- operands

  number_joint : (n : ℕ) → JointEval (number Target VtableId n) (number Item Table n)
  number_joint n = record {
    both = number Both BothTables n;
    on_left = number_law Both BothTables Target VtableId left n;
    on_right = number_law Both BothTables Item Table right n;
  }

  boolean_joint : (b : Bool) → JointEval (boolean Target VtableId b) (boolean Item Table b)
  boolean_joint b = record {
    both = boolean Both BothTables b;
    on_left = boolean_law Both BothTables Target VtableId left b;
    on_right = boolean_law Both BothTables Item Table right b;
  }

  copy_joint : (a : Find Target VtableId) (b : Find Item Table) → JointFind a b → JointEval (copy Target VtableId a) (copy Item Table b)
  copy_joint a b j = record {
    both = copy Both BothTables j.both;
    on_left = copy_law Both BothTables Target VtableId left j.both a j.on_left;
    on_right = copy_law Both BothTables Item Table right j.both b j.on_right;
  }

  move_joint : (a : Find Target VtableId) (b : Find Item Table) → JointFind a b → JointEval (move Target VtableId a) (move Item Table b)
  move_joint a b j = record {
    both = move Both BothTables j.both;
    on_left = move_law Both BothTables Target VtableId left j.both a j.on_left;
    on_right = move_law Both BothTables Item Table right j.both b j.on_right;
  }

  pub operand_joint : (q : Both) (o : Operand) → Found q (named_in_operand q.item o) → JointEval (image_operand (target q) (operand_of o)) (demand_operand q.item o)
  operand_joint q (operand.Copy place) found = copy_joint _ _ (place_joint q place found)
  operand_joint q (operand.Move place) found = move_joint _ _ (place_joint q place found)
  operand_joint q (operand.Num n) found = number_joint n
  operand_joint q (operand.Truth b) found = boolean_joint b

  pub operands_joint : (q : Both) (os : List Operand) → Found q (named_in_operands q.item os) → JointEvals (map (image_operand (target q)) (map operand_of os)) (map (demand_operand q.item) os)
  operands_joint q [] found = record { both = []; on_left = tt; on_right = tt }
  operands_joint q (o ∷ os) found =
      let here = named_in_operand q.item o in
      let others = named_in_operands q.item os in
      let j = operand_joint q o (λ y has. found y (Contains-append_left here others y has)) in
      let js = operands_joint q os (λ y has. found y (Contains-append_right here others y has)) in
      record { both = j.both ∷ js.both; on_left = (j.on_left, js.on_left); on_right = (j.on_right, js.on_right) }

  -- ---- rvalues

  negation_joint : (a : Eval Target VtableId) (b : Eval Item Table) → JointEval a b → JointEval (negation Target VtableId a) (negation Item Table b)
  negation_joint a b j = record {
    both = negation Both BothTables j.both;
    on_left = negation_law Both BothTables Target VtableId left j.both a j.on_left;
    on_right = negation_law Both BothTables Item Table right j.both b j.on_right;
  }

  binary_joint : (op : Op) (a c : Eval Target VtableId) (b d : Eval Item Table) → JointEval a b → JointEval c d → JointEval (binary Target VtableId op a c) (binary Item Table op b d)
  binary_joint op a c b d i j = record {
    both = binary Both BothTables op i.both j.both;
    on_left = binary_law Both BothTables Target VtableId left op i.both j.both a c i.on_left j.on_left;
    on_right = binary_law Both BothTables Item Table right op i.both j.both b d i.on_right j.on_right;
  }

  pub rvalue_joint : (q : Both) (r : Rvalue) → Found q (named_in_rvalue q.item r) → JointEval (image_rvalue (target q) (rvalue_of r)) (demand_rvalue q.item r)
  rvalue_joint q (rvalue.Use o) found = operand_joint q o found
  rvalue_joint q (rvalue.Not o) found = negation_joint _ _ (operand_joint q o found)
  rvalue_joint q (rvalue.Binary op a b) found =
      let on_a = named_in_operand q.item a in
      let on_b = named_in_operand q.item b in
      binary_joint op _ _ _ _
      (operand_joint q a (λ y has. found y (Contains-append_left on_a on_b y has)))
      (operand_joint q b (λ y has. found y (Contains-append_right on_a on_b y has)))

  -- ---- statements

  set_joint : (f : Find Target VtableId) (g : Find Item Table) (a : Eval Target VtableId) (b : Eval Item Table) → JointFind f g → JointEval a b → JointAct (set Target VtableId f a) (set Item Table g b)
  set_joint f g a b i j = record {
    both = set Both BothTables i.both j.both;
    on_left = set_law Both BothTables Target VtableId left i.both f j.both a i.on_left j.on_left;
    on_right = set_law Both BothTables Item Table right i.both g j.both b i.on_right j.on_right;
  }

  print_joint : (a : Eval Target VtableId) (b : Eval Item Table) → JointEval a b → JointAct (print Target VtableId a) (print Item Table b)
  print_joint a b j = record {
    both = print Both BothTables j.both;
    on_left = print_law Both BothTables Target VtableId left j.both a j.on_left;
    on_right = print_law Both BothTables Item Table right j.both b j.on_right;
  }

  pub statement_joint : (q : Both) (s : Statement) → Found q (named_in_statement q.item s) → JointAct (image_instr (target q) (instr_of s)) (demand_statement q.item s)
  statement_joint q (statement.Set place r) found =
      let on_place = named_in_place q.item place in
      let on_value = named_in_rvalue q.item r in
      set_joint _ _ _ _
      (place_joint q place (λ y has. found y (Contains-append_left on_place on_value y has)))
      (rvalue_joint q r (λ y has. found y (Contains-append_right on_place on_value y has)))
  statement_joint q (statement.Print o) found = print_joint _ _ (operand_joint q o found)

  -- ---- ends

  return_joint : JointAct (return Target VtableId) (return Item Table)
  return_joint = record {
    both = return Both BothTables;
    on_left = return_law Both BothTables Target VtableId left;
    on_right = return_law Both BothTables Item Table right;
  }

  pub unreachable_joint : JointAct (unreachable Target VtableId) (unreachable Item Table)
  unreachable_joint = record {
    both = unreachable Both BothTables;
    on_left = unreachable_law Both BothTables Target VtableId left;
    on_right = unreachable_law Both BothTables Item Table right;
  }

  goto_joint : (label : ℕ) → JointAct (goto Target VtableId label) (goto Item Table label)
  goto_joint label = record {
    both = goto Both BothTables label;
    on_left = goto_law Both BothTables Target VtableId left label;
    on_right = goto_law Both BothTables Item Table right label;
  }

  switch_joint : (a : Eval Target VtableId) (b : Eval Item Table) (arms : List Arm) (other : ℕ) → JointEval a b → JointAct (switch Target VtableId a arms other) (switch Item Table b arms other)
  switch_joint a b arms other j = record {
    both = switch Both BothTables j.both arms other;
    on_left = switch_law Both BothTables Target VtableId left j.both a arms other j.on_left;
    on_right = switch_law Both BothTables Item Table right j.both b arms other j.on_right;
  }

  -- what is found for the symbol is called, and that is a definition of the item
  call_joint : (y : Item) (unit : ℕ) (es : List (Eval Target VtableId)) (ds : List (Eval Item Table)) (f : Find Target VtableId) (g : Find Item Table) (label : ℕ) → Resolves p items us unit y → JointEvals es ds → JointFind f g → JointAct (call_found us (find_in us unit (item_symbol p y)) es f label) (call Item Table y (shape_of (function_of p y)) ds g label)
  call_joint y unit es ds f g label res js i =
      let there : Contains (placed us) res.found = resolved_among us unit (item_symbol p y) res.found res.there in
      let q : Both = record { one = res.found; item = y; there = there; of_item = res.of_item } in
      let shape : Shape = shape_of (function_of p y) in
      let shaped : def_shape (def_at us (target q)) ≡ shape = item_shape p items us res.found y there res.of_item in
      record {
        both = call Both BothTables q shape js.both i.both label;
        on_left = λ s.
            call_law Both BothTables Target VtableId left q shape js.both es i.both f label js.on_left i.on_left s
            ∙ ap (λ n. call Target VtableId (target q) n es f label (state_renamed Both BothTables Target VtableId left s)) (sym shaped)
            ∙ ap (λ o. call_found us (option_map target_of o) es f label (state_renamed Both BothTables Target VtableId left s)) (sym res.there);
        on_right = call_law Both BothTables Item Table right q shape js.both ds i.both g label js.on_right i.on_right;
      }

  pub end_joint : (q : Both) (e : End) → Found q (named_in_end q.item e) → JointAct (image_end us (target q) (end_of p (type_args q.item) e)) (demand_end p q.item e)
  end_joint q end.Return found = return_joint
  end_joint q end.Unreachable found = unreachable_joint
  end_joint q (end.Goto label) found = goto_joint label
  end_joint q (end.Switch o arms other) found = switch_joint _ _ arms other (operand_joint q o found)
  end_joint q (end.Call c) found =
      let y = called (type_args q.item) c in
      let on_operands = named_in_operands q.item c.operands in
      let on_place = named_in_place q.item c.place in
      let behind : (z : Item) → Contains (on_operands ++ on_place) z → Contains (y ∷ (on_operands ++ on_place)) z = Contains-append_right (y ∷ []) (on_operands ++ on_place) in
      call_joint y q.one.unit _ _ _ _ c.target
      (found y (0, omega arith, refl))
      (operands_joint q c.operands (λ z has. found z (behind z (Contains-append_left on_operands on_place z has))))
      (place_joint q c.place (λ z has. found z (behind z (Contains-append_right on_operands on_place z has))))
