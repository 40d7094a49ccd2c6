-- Laws of the readers of words.
use Rattle.std.proofs.Common.{◌≡◌, ℕ, ◌<◌, ◌^◌, ◌-◌, true, false, ◌++◌, codes, Option, Some, None, refl, ap, sym, ◌∙◌, subst, arith, inl, inr}
use Rattle.std.specs.Fmt.{decimal}
use Rattle.mm_plain.specs.declared.program.Op.{Op}
use Rattle.mm_plain.specs.declared.program.Op.TheVariants.{Add, Sub, Mul, Div, Rem, Eq, Lt}
use Rattle.mm_objects.specs.declared.objects.Linkage.{Linkage}
use Rattle.mm_objects.specs.declared.objects.Linkage.TheVariants.{External, Internal}
use Rattle.mm_objects.specs.declared.objects.ObjPlace.{ObjPlace}
use Rattle.mm_objects.specs.declared.objects.ObjBase.{ObjBase}
use Rattle.mm_objects.specs.declared.objects.ObjBase.TheVariants as bases
use Rattle.mm_objects.specs.declared.objects.ObjOperand.{ObjOperand}
use Rattle.mm_objects.specs.declared.objects.ObjOperand.TheVariants as operands
use Rattle.mm_objects.specs.declared.objects.ObjCallee.{ObjCallee}
use Rattle.mm_objects.specs.declared.objects.ObjCallee.TheVariants as callees
use Rattle.mm_names.specs.Decimals.{number_in}
use Rattle.mm_objects.specs.ObjectText.{Word, base_text, place_text, operand_text, op_text, linkage_text, callee_text}
use Rattle.mm_objects.specs.ObjectForms.{IsBase, IsPlace, IsOperand, IsCallee}
use Rattle.mm_objects.specs.LineReading.{◌>>=◌, behind, below_in, place_in, copied_in, moved_in, truth_in, literal_in, operand_in, op_in, linkage_in, symbol_in, callee_in}
use Rattle.mm_objects.proofs.NameLaws.{symbol-reads}
use Rattle.mm_objects.proofs.ReadTools.{Reads, some_same, bind_some, or_some, keyed, keyed_only, behind-sound, number-reads, below-reads, BeginsWithDigit, decimal-begins, no_word, no_prefix}

place-sound : (locals : ℕ) (w : Word) (place : ObjPlace) → place_in locals w ≡ Some place → IsPlace locals place × (place_text place ≡ w)
unfolding place_in
place-sound locals w place h =
    let a = bind_some (behind (codes "_") w) _ place h in
    let b = bind_some (below_in locals a.0) _ place a.2 in
    let n = (below-reads locals).sound a.0 b.0 b.1 in
    subst (λ p. IsPlace locals p × (place_text p ≡ w)) (some_same _ _ b.2) (n.0, ap (λ d. codes "_" ++ d) n.1 ∙ behind-sound (codes "_") w a.0 a.1)

local-again : (locals : ℕ) (base : ObjBase) → IsBase locals base → place_in locals (base_text base) ≡ Some (record { base = base })
unfolding place_in
local-again locals (bases.Local n) is = rw ((below-reads locals).again n is) refl

pub place-reads : (locals : ℕ) → Reads (IsPlace locals) place_text (place_in locals)
place-reads locals = record { sound = place-sound locals; again = λ place is. local-again locals place.base is }

callee-sound : (w : Word) (callee : ObjCallee) → callee_in w ≡ Some callee → IsCallee callee × (callee_text callee ≡ w)
unfolding callee_in
callee-sound w callee h =
    let a = bind_some (behind (codes "fn:") w) _ callee h in
    let b = bind_some (symbol_in a.0) _ callee a.2 in
    let s = symbol-reads.sound a.0 b.0 b.1 in
    subst (λ c. IsCallee c × (callee_text c ≡ w)) (some_same _ _ b.2) (s.0, ap (λ d. codes "fn:" ++ d) s.1 ∙ behind-sound (codes "fn:") w a.0 a.1)

callee-again : (callee : ObjCallee) → IsCallee callee → callee_in (callee_text callee) ≡ Some callee
unfolding callee_in
callee-again (callees.Fn symbol) is = rw (symbol-reads.again symbol is) refl

pub callee-reads : Reads IsCallee callee_text callee_in
callee-reads = record { sound = callee-sound; again = callee-again }

-- ---- words that stand for themselves

linkage-sound : (w : Word) (link : Linkage) → linkage_in w ≡ Some link → linkage_text link ≡ w
unfolding linkage_in
linkage-sound w link h =
    elim (keyed w (codes "External") _ _ link h) [
      | inl p ↦ subst (λ l. linkage_text l ≡ w) (some_same _ _ p.1) (sym p.0)
      | inr q ↦ let p = keyed_only w (codes "Internal") _ link q in subst (λ l. linkage_text l ≡ w) (some_same _ _ p.1) (sym p.0)
    ]

linkage-again : (link : Linkage) → linkage_in (linkage_text link) ≡ Some link
unfolding linkage_in
linkage-again External = refl
linkage-again Internal = refl

pub linkage-reads : Reads (λ (link : Linkage). Unit {0}) linkage_text linkage_in
linkage-reads = record { sound = λ w link h. (tt, linkage-sound w link h); again = λ link is. linkage-again link }

op-sound : (w : Word) (op : Op) → op_in w ≡ Some op → op_text op ≡ w
unfolding op_in
op-sound w op h =
    let reported : (o : Op) → w ≡ op_text o → Some o ≡ Some op → op_text op ≡ w = λ o is same. subst (λ l. op_text l ≡ w) (some_same _ _ same) (sym is) in
    elim (keyed w (codes "add") _ _ op h) [
      | inl p ↦ reported Add p.0 p.1
      | inr h ↦ elim (keyed w (codes "sub") _ _ op h) [
        | inl p ↦ reported Sub p.0 p.1
        | inr h ↦ elim (keyed w (codes "mul") _ _ op h) [
          | inl p ↦ reported Mul p.0 p.1
          | inr h ↦ elim (keyed w (codes "div") _ _ op h) [
            | inl p ↦ reported Div p.0 p.1
            | inr h ↦ elim (keyed w (codes "rem") _ _ op h) [
              | inl p ↦ reported Rem p.0 p.1
              | inr h ↦ elim (keyed w (codes "eq") _ _ op h) [
                | inl p ↦ reported Eq p.0 p.1
                | inr h ↦ let p = keyed_only w (codes "lt") _ op h in reported Lt p.0 p.1
              ]
            ]
          ]
        ]
      ]
    ]

pub op-again : (op : Op) → op_in (op_text op) ≡ Some op
unfolding op_in
op-again Add = refl
op-again Sub = refl
op-again Mul = refl
op-again Div = refl
op-again Rem = refl
op-again Eq = refl
op-again Lt = refl

pub op-reads : Reads (λ (op : Op). Unit {0}) op_text op_in
op-reads = record { sound = λ w op h. (tt, op-sound w op h); again = λ op is. op-again op }

-- ---- operands

copied-sound : (locals : ℕ) (w : Word) (a : ObjOperand) → copied_in locals w ≡ Some a → IsOperand locals a × (operand_text a ≡ w)
unfolding copied_in
copied-sound locals w a h =
    let b = bind_some (behind (codes "copy:") w) _ a h in
    let c = bind_some (place_in locals b.0) _ a b.2 in
    let p = (place-reads locals).sound b.0 c.0 c.1 in
    subst (λ o. IsOperand locals o × (operand_text o ≡ w)) (some_same _ _ c.2) (p.0, ap (λ d. codes "copy:" ++ d) p.1 ∙ behind-sound (codes "copy:") w b.0 b.1)

moved-sound : (locals : ℕ) (w : Word) (a : ObjOperand) → moved_in locals w ≡ Some a → IsOperand locals a × (operand_text a ≡ w)
unfolding moved_in
moved-sound locals w a h =
    let b = bind_some (behind (codes "move:") w) _ a h in
    let c = bind_some (place_in locals b.0) _ a b.2 in
    let p = (place-reads locals).sound b.0 c.0 c.1 in
    subst (λ o. IsOperand locals o × (operand_text o ≡ w)) (some_same _ _ c.2) (p.0, ap (λ d. codes "move:" ++ d) p.1 ∙ behind-sound (codes "move:") w b.0 b.1)

truth-sound : (locals : ℕ) (w : Word) (a : ObjOperand) → truth_in w ≡ Some a → IsOperand locals a × (operand_text a ≡ w)
unfolding truth_in
truth-sound locals w a h =
    elim (keyed w (codes "true") _ _ a h) [
      | inl p ↦ subst (λ o. IsOperand locals o × (operand_text o ≡ w)) (some_same _ _ p.1) (tt, sym p.0)
      | inr q ↦ let p = keyed_only w (codes "false") _ a q in subst (λ o. IsOperand locals o × (operand_text o ≡ w)) (some_same _ _ p.1) (tt, sym p.0)
    ]

literal-sound : (locals : ℕ) (w : Word) (a : ObjOperand) → literal_in w ≡ Some a → IsOperand locals a × (operand_text a ≡ w)
unfolding literal_in
literal-sound locals w a h =
    let b = bind_some (number_in (2 ^ 64 - 1) w) _ a h in
    let n = (number-reads (2 ^ 64 - 1) (omega arith)).sound w b.0 b.1 in
    let fits : b.0 < 2 ^ 64 = omega (arith, n.0) in
    subst (λ o. IsOperand locals o × (operand_text o ≡ w)) (some_same _ _ b.2) (fits, n.1)

operand-sound : (locals : ℕ) (w : Word) (a : ObjOperand) → operand_in locals w ≡ Some a → IsOperand locals a × (operand_text a ≡ w)
unfolding operand_in
operand-sound locals w a h =
    elim (or_some _ _ a h) [
      | inl h ↦ elim (or_some _ _ a h) [
        | inl h ↦ elim (or_some _ _ a h) [ inl h ↦ copied-sound locals w a h | inr h ↦ moved-sound locals w a h ]
        | inr h ↦ truth-sound locals w a h
      ]
      | inr h ↦ literal-sound locals w a h
    ]

bind_none : {A B : Type 0} (o : Option A) (go : A → Option B) → o ≡ None → (o >>= go) ≡ None
bind_none o go h = ap (λ x. x >>= go) h

copied-not : (locals : ℕ) (w : Word) → BeginsWithDigit w → copied_in locals w ≡ None
unfolding copied_in
copied-not locals w b = bind_none (behind (codes "copy:") w) _ (no_prefix w 99 (codes "opy:") b refl)

moved-not : (locals : ℕ) (w : Word) → BeginsWithDigit w → moved_in locals w ≡ None
unfolding moved_in
moved-not locals w b = bind_none (behind (codes "move:") w) _ (no_prefix w 109 (codes "ove:") b refl)

truth-not : (w : Word) → BeginsWithDigit w → truth_in w ≡ None
unfolding truth_in
truth-not w b = rw (no_word w 116 (codes "rue") b refl, no_word w 102 (codes "alse") b refl) refl

literal-again : (n : ℕ) → n < 2 ^ 64 → literal_in (decimal n) ≡ Some (operands.Num n)
unfolding literal_in
literal-again n fits = rw ((number-reads (2 ^ 64 - 1) (omega arith)).again n (omega arith)) refl

operand-again : (locals : ℕ) (a : ObjOperand) → IsOperand locals a → operand_in locals (operand_text a) ≡ Some a
unfolding operand_in copied_in moved_in truth_in
operand-again locals (operands.Copy place) is = rw ((place-reads locals).again place is) refl
operand-again locals (operands.Move place) is = rw ((place-reads locals).again place is) refl
operand-again locals (operands.Truth true) is = refl
operand-again locals (operands.Truth false) is = refl
operand-again locals (operands.Num n) is =
    let b = decimal-begins n is in
    rw (copied-not locals (decimal n) b, moved-not locals (decimal n) b, truth-not (decimal n) b, literal-again n is) refl

pub operand-reads : (locals : ℕ) → Reads (IsOperand locals) operand_text (operand_in locals)
operand-reads locals = record { sound = operand-sound locals; again = operand-again locals }
