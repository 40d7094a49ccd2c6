-- Laws of the readers of lines.
use Rattle.std.proofs.Common.{◌≡◌, ℕ, ◌<◌, ◌^◌, ◌-◌, true, false, eqb, List, [], ◌∷◌, ◌++◌, map, codes, All, Option, Some, None, refl, ap, sym, ◌∙◌, subst, arith, append_assoc, inl, inr}
use Rattle.std.specs.List.{slice_split, join_with_byte, list_all}
use Rattle.std.specs.Char.{is_ascii_digit}
use Rattle.std.specs.Fmt.{decimal}
use Rattle.std.proofs.lemmas.Bool.{and_parts, eqb-true, false_from_ne_true, both_ways}
use Rattle.std.proofs.lemmas.List.Elements.{All-nil, All-cons, All-head, All-tail}
use Rattle.std.proofs.lemmas.List.Splits.{slice_split_at, slice_split_none, join_with_byte-slice_split}
use Rattle.mm_plain.specs.declared.program.Op.{Op}
use Rattle.mm_plain.specs.declared.program.Op.TheVariants.{Add, Sub, Mul, Div, Rem, Eq, Lt}
use Rattle.mm_plain.specs.declared.program.Arm.{Arm}
use Rattle.mm_objects.specs.declared.objects.ObjInstr.{ObjInstr}
use Rattle.mm_objects.specs.declared.objects.ObjInstr.TheVariants as instrs
use Rattle.mm_objects.specs.declared.objects.ObjRvalue.{ObjRvalue}
use Rattle.mm_objects.specs.declared.objects.ObjRvalue.TheVariants as rvalues
use Rattle.mm_objects.specs.declared.objects.ObjOperand.{ObjOperand}
use Rattle.mm_objects.specs.declared.objects.ObjEnd.{ObjEnd}
use Rattle.mm_objects.specs.declared.objects.ObjEnd.TheVariants as ends
use Rattle.mm_names.specs.Decimals.{number_in}
use Rattle.mm_names.proofs.Numerals.{decimal-digits}
use Rattle.mm_objects.specs.ObjectText.{Word, Line, operand_text, op_text, rvalue_words, instr_words, arm_text, end_words}
use Rattle.mm_objects.specs.ObjectForms.{IsBelow, IsOperand, IsRvalue, IsInstr, IsArm, IsEnd}
use Rattle.mm_objects.specs.LineReading.{below_in, place_in, operand_in, op_in, callee_in, first_of, only_of, both_of, if_done, before, last_two, all_in, arm_in, one_operand_in, binary_in, rvalue_in, set_in, instr_in, goto_in, listed_in, switch_in, call_in, end_in}
use Rattle.mm_objects.proofs.ReadTools.{Reads, some_same, bind_some, keyed, keyed_only, same_word, number-reads, below-reads}
use Rattle.mm_objects.proofs.WordReads.{place-reads, operand-reads, op-reads, callee-reads}
use Rattle.mm_objects.proofs.PieceLemmas.{last_two-at}

-- ---- parts of lists of words

pub first-is : (ws : Line) (w : Word) (others : Line) → first_of ws ≡ Some (w, others) → w ∷ others ≡ ws
first-is [] w others h = cc
first-is (v ∷ vs) w others h = let e = some_same (v, vs) (w, others) h in λ i. (sym e i).0 ∷ (sym e i).1

pub only-is : (ws : Line) (w : Word) → only_of ws ≡ Some w → w ∷ [] ≡ ws
only-is [] w h = cc
only-is (v ∷ []) w h = ap (λ x. x ∷ []) (sym (some_same v w h))
only-is (v ∷ u ∷ vs) w h = cc

pub both-is : (ws : Line) (p : Word × Word) → both_of ws ≡ Some p → p.0 ∷ p.1 ∷ [] ≡ ws
both-is [] p h = cc
both-is (v ∷ []) p h = cc
both-is (v ∷ u ∷ []) p h = let e = some_same (v, u) p h in λ i. (sym e i).0 ∷ (sym e i).1 ∷ []
both-is (v ∷ u ∷ t ∷ vs) p h = cc

pub done-is : {A : Type 0} (a b : A) (ws : Line) → if_done a ws ≡ Some b → (a ≡ b) × ([] ≡ ws)
done-is a b [] h = (some_same a b h, refl)
done-is a b (w ∷ ws) h = cc

before-is : (a : Word) (o : Option (Line × Word × Word)) (p : Line × Word × Word) → before a o ≡ Some p → (q : Line × Word × Word) × (o ≡ Some q) × ((a ∷ q.0, q.1, q.2) ≡ p)
before-is a None p h = cc
before-is a (Some q) p h = (q, refl, some_same (a ∷ q.0, q.1, q.2) p h)

last_two-is : (ws : Line) (p : Line × Word × Word) → last_two ws ≡ Some p → p.0 ++ p.1 ∷ p.2 ∷ [] ≡ ws
unfolding last_two
last_two-is [] p h = cc
last_two-is (a ∷ []) p h = cc
last_two-is (a ∷ b ∷ []) p h = let e = some_same ([], a, b) p h in λ i. (sym e i).0 ++ (sym e i).1 ∷ (sym e i).2 ∷ []
last_two-is (a ∷ b ∷ c ∷ cs) p h =
    let q = before-is a (last_two (b ∷ c ∷ cs)) p h in
    let is = last_two-is (b ∷ c ∷ cs) q.0 q.1 in
    (λ i. (sym q.2 i).0 ++ (sym q.2 i).1 ∷ (sym q.2 i).2 ∷ []) ∙ ap (λ l. a ∷ l) is

all-sound : {A : Type 0} {Is : A → Type 0} {spell : A → Word} {read : Word → Option A} → Reads Is spell read → (ws : Line) (found : List A) → all_in read ws ≡ Some found → All Is found × (map spell found ≡ ws)
unfolding all_in
all-sound {Is = Is} {spell = spell} r [] found h = subst (λ l. All Is l × (map spell l ≡ [])) (some_same [] found h) (All-nil Is, refl)
all-sound {Is = Is} {spell = spell} {read = read} r (w ∷ ws) found h =
    let a = bind_some (read w) _ found h in
    let b = bind_some (all_in read ws) _ found a.2 in
    let one = r.sound w a.0 a.1 in
    let others = all-sound r ws b.0 b.1 in
    subst (λ l. All Is l × (map spell l ≡ w ∷ ws)) (some_same (a.0 ∷ b.0) found b.2) (All-cons Is a.0 b.0 one.0 others.0, λ i. one.1 i ∷ others.1 i)

all-again : {A : Type 0} {Is : A → Type 0} {spell : A → Word} {read : Word → Option A} → Reads Is spell read → (things : List A) → All Is things → all_in read (map spell things) ≡ Some things
unfolding all_in
all-again {Is = Is} r [] all = refl
all-again {Is = Is} r (a ∷ others) all = rw (r.again a (All-head Is a others all), all-again r others (All-tail Is a others all)) refl

pub all-reads : {A : Type 0} {Is : A → Type 0} {spell : A → Word} {read : Word → Option A} → Reads Is spell read → Reads (All Is) (map spell) (all_in read)
all-reads r = record { sound = all-sound r; again = all-again r }

-- ---- instructions

one_operand-sound : (locals : ℕ) (ws : Line) (a : ObjOperand) → one_operand_in locals ws ≡ Some a → IsOperand locals a × (operand_text a ∷ [] ≡ ws)
unfolding one_operand_in
one_operand-sound locals ws a h =
    let b = bind_some (only_of ws) (operand_in locals) a h in
    let p = (operand-reads locals).sound b.0 a b.2 in
    (p.0, ap (λ w. w ∷ []) p.1 ∙ only-is ws b.0 b.1)

one_operand-again : (locals : ℕ) (a : ObjOperand) → IsOperand locals a → one_operand_in locals (operand_text a ∷ []) ≡ Some a
unfolding one_operand_in
one_operand-again locals a is = (operand-reads locals).again a is

binary-sound : (locals : ℕ) (op : Op) (ws : Line) (v : ObjRvalue) → binary_in locals op ws ≡ Some v → IsRvalue locals v × (rvalue_words v ≡ op_text op ∷ ws)
unfolding binary_in
binary-sound locals op ws v h =
    let p = bind_some (both_of ws) _ v h in
    let a = bind_some (operand_in locals p.0.0) _ v p.2 in
    let b = bind_some (operand_in locals p.0.1) _ v a.2 in
    let x = (operand-reads locals).sound p.0.0 a.0 a.1 in
    let y = (operand-reads locals).sound p.0.1 b.0 b.1 in
    subst (λ u. IsRvalue locals u × (rvalue_words u ≡ op_text op ∷ ws)) (some_same _ _ b.2)
    ((x.0, y.0), (λ i. op_text op ∷ x.1 i ∷ y.1 i ∷ []) ∙ ap (λ l. op_text op ∷ l) (both-is ws p.0 p.1))

binary-again : (locals : ℕ) (op : Op) (a b : ObjOperand) → IsOperand locals a → IsOperand locals b → binary_in locals op (operand_text a ∷ operand_text b ∷ []) ≡ Some (rvalues.Binary op a b)
unfolding binary_in
binary-again locals op a b x y = rw ((operand-reads locals).again a x, (operand-reads locals).again b y) refl

rvalue-behind : (locals : ℕ) (w : Word) (ws : Line) (v : ObjRvalue) → rvalue_in locals (w ∷ ws) ≡ Some v → IsRvalue locals v × (rvalue_words v ≡ w ∷ ws)
unfolding rvalue_in
rvalue-behind locals w ws v h =
    elim (keyed w (codes "use") _ _ v h) [
      | inl p ↦
          let a = bind_some (one_operand_in locals ws) _ v p.1 in
          let x = one_operand-sound locals ws a.0 a.1 in
          subst (λ u. IsRvalue locals u × (rvalue_words u ≡ w ∷ ws)) (some_same _ _ a.2) (x.0, λ i. sym p.0 i ∷ x.1 i)
      | inr h ↦ elim (keyed w (codes "not") _ _ v h) [
        | inl p ↦
            let a = bind_some (one_operand_in locals ws) _ v p.1 in
            let x = one_operand-sound locals ws a.0 a.1 in
            subst (λ u. IsRvalue locals u × (rvalue_words u ≡ w ∷ ws)) (some_same _ _ a.2) (x.0, λ i. sym p.0 i ∷ x.1 i)
        | inr h ↦
            let op = bind_some (op_in w) _ v h in
            let x = binary-sound locals op.0 ws v op.2 in
            (x.0, x.1 ∙ ap (λ u. u ∷ ws) (op-reads.sound w op.0 op.1).1)
      ]
    ]

rvalue-sound : (locals : ℕ) (ws : Line) (v : ObjRvalue) → rvalue_in locals ws ≡ Some v → IsRvalue locals v × (rvalue_words v ≡ ws)
unfolding rvalue_in
rvalue-sound locals [] v h = cc
rvalue-sound locals (w ∷ ws) v h = rvalue-behind locals w ws v h

rvalue-op : (locals : ℕ) (op : Op) (a b : ObjOperand) → IsOperand locals a → IsOperand locals b → rvalue_in locals (op_text op ∷ operand_text a ∷ operand_text b ∷ []) ≡ Some (rvalues.Binary op a b)
unfolding rvalue_in op_in
rvalue-op locals Add a b x y = rw (binary-again locals Add a b x y) refl
rvalue-op locals Sub a b x y = rw (binary-again locals Sub a b x y) refl
rvalue-op locals Mul a b x y = rw (binary-again locals Mul a b x y) refl
rvalue-op locals Div a b x y = rw (binary-again locals Div a b x y) refl
rvalue-op locals Rem a b x y = rw (binary-again locals Rem a b x y) refl
rvalue-op locals Eq a b x y = rw (binary-again locals Eq a b x y) refl
rvalue-op locals Lt a b x y = rw (binary-again locals Lt a b x y) refl

rvalue-again : (locals : ℕ) (v : ObjRvalue) → IsRvalue locals v → rvalue_in locals (rvalue_words v) ≡ Some v
unfolding rvalue_in
rvalue-again locals (rvalues.Use a) is = rw (one_operand-again locals a is) refl
rvalue-again locals (rvalues.Not a) is = rw (one_operand-again locals a is) refl
rvalue-again locals (rvalues.Binary op a b) is = rvalue-op locals op a b is.0 is.1

set-sound : (locals : ℕ) (ws : Line) (instr : ObjInstr) → set_in locals ws ≡ Some instr → IsInstr locals instr × (instr_words instr ≡ codes "set" ∷ ws)
unfolding set_in
set-sound locals ws instr h =
    let x = bind_some (first_of ws) _ instr h in
    let place = bind_some (place_in locals x.0.0) _ instr x.2 in
    let value = bind_some (rvalue_in locals x.0.1) _ instr place.2 in
    let p = (place-reads locals).sound x.0.0 place.0 place.1 in
    let v = rvalue-sound locals x.0.1 value.0 value.1 in
    subst (λ u. IsInstr locals u × (instr_words u ≡ codes "set" ∷ ws)) (some_same _ _ value.2)
    ((p.0, v.0), (λ i. codes "set" ∷ p.1 i ∷ v.1 i) ∙ ap (λ l. codes "set" ∷ l) (first-is ws x.0.0 x.0.1 x.1))

instr-behind : (locals : ℕ) (w : Word) (ws : Line) (instr : ObjInstr) → instr_in locals (w ∷ ws) ≡ Some instr → IsInstr locals instr × (instr_words instr ≡ w ∷ ws)
unfolding instr_in
instr-behind locals w ws instr h =
    elim (keyed w (codes "set") _ _ instr h) [
      | inl p ↦ let x = set-sound locals ws instr p.1 in (x.0, x.1 ∙ ap (λ u. u ∷ ws) (sym p.0))
      | inr h ↦
          let p = keyed_only w (codes "print") _ instr h in
          let a = bind_some (one_operand_in locals ws) _ instr p.1 in
          let x = one_operand-sound locals ws a.0 a.1 in
          subst (λ u. IsInstr locals u × (instr_words u ≡ w ∷ ws)) (some_same _ _ a.2) (x.0, λ i. sym p.0 i ∷ x.1 i)
    ]

instr-sound : (locals : ℕ) (ws : Line) (instr : ObjInstr) → instr_in locals ws ≡ Some instr → IsInstr locals instr × (instr_words instr ≡ ws)
unfolding instr_in
instr-sound locals [] instr h = cc
instr-sound locals (w ∷ ws) instr h = instr-behind locals w ws instr h

instr-again : (locals : ℕ) (instr : ObjInstr) → IsInstr locals instr → instr_in locals (instr_words instr) ≡ Some instr
unfolding instr_in set_in
instr-again locals (instrs.Set place value) is = rw ((place-reads locals).again place is.0, rvalue-again locals value is.1) refl
instr-again locals (instrs.Print a) is = rw (one_operand-again locals a is) refl

pub instr-reads : (locals : ℕ) → Reads (IsInstr locals) instr_words (instr_in locals)
instr-reads locals = record { sound = instr-sound locals; again = instr-again locals }

-- ---- ends

below-one-sound : (blocks : ℕ) (ws : Line) (e : ObjEnd) → goto_in blocks ws ≡ Some e → (locals : ℕ) → IsEnd locals blocks e × (end_words e ≡ codes "goto" ∷ ws)
unfolding goto_in
below-one-sound blocks ws e h locals =
    let w = bind_some (only_of ws) _ e h in
    let k = bind_some (below_in blocks w.0) _ e w.2 in
    let n = (below-reads blocks).sound w.0 k.0 k.1 in
    subst (λ u. IsEnd locals blocks u × (end_words u ≡ codes "goto" ∷ ws)) (some_same _ _ k.2) (n.0, (λ i. codes "goto" ∷ n.1 i ∷ []) ∙ ap (λ l. codes "goto" ∷ l) (only-is ws w.0 w.1))

listed-sound : (mark : Word) (blocks : ℕ) (ws : Line) (p : Line × ℕ) → listed_in mark blocks ws ≡ Some p → IsBelow blocks p.1 × (p.0 ++ mark ∷ decimal p.1 ∷ [] ≡ ws)
unfolding listed_in
listed-sound mark blocks ws p h =
    let x = bind_some (last_two ws) _ p h in
    let m = keyed_only x.0.1 mark _ p x.2 in
    let k = bind_some (below_in blocks x.0.2) _ p m.1 in
    let n = (below-reads blocks).sound x.0.2 k.0 k.1 in
    subst (λ q. IsBelow blocks q.1 × (q.0 ++ mark ∷ decimal q.1 ∷ [] ≡ ws)) (some_same _ _ k.2) (n.0, (λ i. x.0.0 ++ sym m.0 i ∷ n.1 i ∷ []) ∙ last_two-is ws x.0 x.1)

listed-again : (mark : Word) (blocks : ℕ) (prefix : Line) (k : ℕ) → IsBelow blocks k → listed_in mark blocks (prefix ++ mark ∷ decimal k ∷ []) ≡ Some (prefix, k)
unfolding listed_in
listed-again mark blocks prefix k is = rw (last_two-at prefix mark (decimal k), same_word mark, (below-reads blocks).again k is) refl

-- an arm is cut at its colon
no_colon : (ds : List ℕ) → list_all is_ascii_digit ds ≡ true → All (λ b. eqb b 58 ≡ false) ds
no_colon [] h = All-nil (λ b. eqb b 58 ≡ false)
no_colon (d ∷ ds) h =
    let p = and_parts (is_ascii_digit d) (list_all is_ascii_digit ds) h in
    let apart : eqb d 58 ≡ false = false_from_ne_true (eqb d 58) (λ e. both_ways (is_ascii_digit 58) refl (subst (λ c. is_ascii_digit c ≡ true) (eqb-true d 58 e) p.0)) in
    All-cons (λ b. eqb b 58 ≡ false) d ds apart (no_colon ds p.1)

arm-cut : (n k : ℕ) → n < 2 ^ 64 → k < 2 ^ 64 → slice_split (λ b. eqb b 58) (decimal n ++ codes ":" ++ decimal k) ≡ decimal n ∷ decimal k ∷ []
arm-cut n k fits small =
    ap (slice_split (λ b. eqb b 58)) (append_assoc (decimal n) (codes ":") (decimal k))
    ∙ slice_split_at (λ b. eqb b 58) (decimal n) 58 (decimal k) (no_colon (decimal n) (decimal-digits n fits)) refl
    ∙ ap (λ l. decimal n ∷ l) (slice_split_none (λ b. eqb b 58) (decimal k) (no_colon (decimal k) (decimal-digits k small)))

arm-sound : (blocks : ℕ) (w : Word) (arm : Arm) → arm_in blocks w ≡ Some arm → IsArm blocks arm × (arm_text arm ≡ w)
unfolding arm_in
arm-sound blocks w arm h =
    let p = bind_some (both_of (slice_split (λ b. eqb b 58) w)) _ arm h in
    let n = bind_some (number_in (2 ^ 64 - 1) p.0.0) _ arm p.2 in
    let k = bind_some (below_in blocks p.0.1) _ arm n.2 in
    let x = (number-reads (2 ^ 64 - 1) (omega arith)).sound p.0.0 n.0 n.1 in
    let y = (below-reads blocks).sound p.0.1 k.0 k.1 in
    let fits : n.0 < 2 ^ 64 = omega (arith, x.0) in
    subst (λ u. IsArm blocks u × (arm_text u ≡ w)) (some_same _ _ k.2)
    ((fits, y.0), (λ i. x.1 i ++ codes ":" ++ y.1 i) ∙ append_assoc p.0.0 (codes ":") p.0.1 ∙ ap (join_with_byte 58) (both-is _ p.0 p.1) ∙ join_with_byte-slice_split 58 w)

arm-again : (blocks : ℕ) (arm : Arm) → IsArm blocks arm → arm_in blocks (arm_text arm) ≡ Some arm
unfolding arm_in
arm-again blocks arm is =
    rw (arm-cut arm.number arm.label is.0 (omega (arith, is.1.1)), (number-reads (2 ^ 64 - 1) (omega arith)).again arm.number (omega (arith, is.0)), (below-reads blocks).again arm.label is.1) refl

pub arm-reads : (blocks : ℕ) → Reads (IsArm blocks) arm_text (arm_in blocks)
arm-reads blocks = record { sound = arm-sound blocks; again = arm-again blocks }

switch-sound : (locals blocks : ℕ) (ws : Line) (e : ObjEnd) → switch_in locals blocks ws ≡ Some e → IsEnd locals blocks e × (end_words e ≡ codes "switch" ∷ ws)
unfolding switch_in
switch-sound locals blocks ws e h =
    let x = bind_some (first_of ws) _ e h in
    let a = bind_some (operand_in locals x.0.0) _ e x.2 in
    let l = bind_some (listed_in (codes "else") blocks x.0.1) _ e a.2 in
    let m = bind_some (all_in (arm_in blocks) l.0.0) _ e l.2 in
    let p = (operand-reads locals).sound x.0.0 a.0 a.1 in
    let q = listed-sound (codes "else") blocks x.0.1 l.0 l.1 in
    let r = (all-reads (arm-reads blocks)).sound l.0.0 m.0 m.1 in
    subst (λ u. IsEnd locals blocks u × (end_words u ≡ codes "switch" ∷ ws)) (some_same _ _ m.2)
    ((p.0, r.0, q.0), (λ i. codes "switch" ∷ p.1 i ∷ (r.1 i ++ codes "else" ∷ decimal l.0.1 ∷ [])) ∙ ap (λ l. codes "switch" ∷ x.0.0 ∷ l) q.1 ∙ ap (λ l. codes "switch" ∷ l) (first-is ws x.0.0 x.0.1 x.1))

call-sound : (locals blocks : ℕ) (ws : Line) (e : ObjEnd) → call_in locals blocks ws ≡ Some e → IsEnd locals blocks e × (end_words e ≡ codes "call" ∷ ws)
unfolding call_in
call-sound locals blocks ws e h =
    let x = bind_some (first_of ws) _ e h in
    let place = bind_some (place_in locals x.0.0) _ e x.2 in
    let y = bind_some (first_of x.0.1) _ e place.2 in
    let callee = bind_some (callee_in y.0.0) _ e y.2 in
    let l = bind_some (listed_in (codes "->") blocks y.0.1) _ e callee.2 in
    let m = bind_some (all_in (operand_in locals) l.0.0) _ e l.2 in
    let p = (place-reads locals).sound x.0.0 place.0 place.1 in
    let f = callee-reads.sound y.0.0 callee.0 callee.1 in
    let q = listed-sound (codes "->") blocks y.0.1 l.0 l.1 in
    let r = (all-reads (operand-reads locals)).sound l.0.0 m.0 m.1 in
    subst (λ u. IsEnd locals blocks u × (end_words u ≡ codes "call" ∷ ws)) (some_same _ _ m.2) (
      (p.0, f.0, r.0, q.0),
      (λ i. codes "call" ∷ p.1 i ∷ f.1 i ∷ (r.1 i ++ codes "->" ∷ decimal l.0.1 ∷ [])) ∙ ap (λ l. codes "call" ∷ x.0.0 ∷ y.0.0 ∷ l) q.1 ∙ ap (λ l. codes "call" ∷ x.0.0 ∷ l) (first-is x.0.1 y.0.0 y.0.1 y.1) ∙ ap (λ l. codes "call" ∷ l) (first-is ws x.0.0 x.0.1 x.1),
    )

alone-sound : (locals blocks : ℕ) (w : Word) (ws : Line) (d e : ObjEnd) → IsEnd locals blocks d → end_words d ≡ w ∷ [] → if_done d ws ≡ Some e → IsEnd locals blocks e × (end_words e ≡ w ∷ ws)
alone-sound locals blocks w ws d e is spelled h =
    let p = done-is d e ws h in
    subst (λ u. IsEnd locals blocks u × (end_words u ≡ w ∷ ws)) p.0 (is, spelled ∙ ap (λ l. w ∷ l) p.1)

end-behind : (locals blocks : ℕ) (w : Word) (ws : Line) (e : ObjEnd) → end_in locals blocks (w ∷ ws) ≡ Some e → IsEnd locals blocks e × (end_words e ≡ w ∷ ws)
unfolding end_in
end-behind locals blocks w ws e h =
    elim (keyed w (codes "return") _ _ e h) [
      | inl p ↦ alone-sound locals blocks w ws ends.Return e tt (ap (λ u. u ∷ []) (sym p.0)) p.1
      | inr h ↦ elim (keyed w (codes "unreachable") _ _ e h) [
        | inl p ↦ alone-sound locals blocks w ws ends.Unreachable e tt (ap (λ u. u ∷ []) (sym p.0)) p.1
        | inr h ↦ elim (keyed w (codes "goto") _ _ e h) [
          | inl p ↦ let x = below-one-sound blocks ws e p.1 locals in (x.0, x.1 ∙ ap (λ u. u ∷ ws) (sym p.0))
          | inr h ↦ elim (keyed w (codes "switch") _ _ e h) [
            | inl p ↦ let x = switch-sound locals blocks ws e p.1 in (x.0, x.1 ∙ ap (λ u. u ∷ ws) (sym p.0))
            | inr h ↦ let p = keyed_only w (codes "call") _ e h in let x = call-sound locals blocks ws e p.1 in (x.0, x.1 ∙ ap (λ u. u ∷ ws) (sym p.0))
          ]
        ]
      ]
    ]

end-sound : (locals blocks : ℕ) (ws : Line) (e : ObjEnd) → end_in locals blocks ws ≡ Some e → IsEnd locals blocks e × (end_words e ≡ ws)
unfolding end_in
end-sound locals blocks [] e h = cc
end-sound locals blocks (w ∷ ws) e h = end-behind locals blocks w ws e h

end-again : (locals blocks : ℕ) (e : ObjEnd) → IsEnd locals blocks e → end_in locals blocks (end_words e) ≡ Some e
unfolding end_in goto_in switch_in call_in
end-again locals blocks ends.Return is = refl
end-again locals blocks ends.Unreachable is = refl
end-again locals blocks (ends.Goto k) is = rw ((below-reads blocks).again k is) refl
end-again locals blocks (ends.Switch a arms k) is =
    rw ((operand-reads locals).again a is.0, listed-again (codes "else") blocks (map arm_text arms) k is.2, (all-reads (arm-reads blocks)).again arms is.1) refl
end-again locals blocks (ends.Call place callee args k) is =
    rw ((place-reads locals).again place is.0, callee-reads.again callee is.1, listed-again (codes "->") blocks (map operand_text args) k is.3, (all-reads (operand-reads locals)).again args is.2) refl

pub end-reads : (locals blocks : ℕ) → Reads (IsEnd locals blocks) end_words (end_in locals blocks)
end-reads locals blocks = record { sound = end-sound locals blocks; again = end-again locals blocks }

-- no end is read as an instruction
pub end-no_instr : (locals : ℕ) (e : ObjEnd) → instr_in locals (end_words e) ≡ None
unfolding instr_in
end-no_instr locals ends.Return = refl
end-no_instr locals ends.Unreachable = refl
end-no_instr locals (ends.Goto k) = refl
end-no_instr locals (ends.Switch a arms k) = refl
end-no_instr locals (ends.Call place callee args k) = refl
