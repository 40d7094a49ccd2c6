-- Objects have one verdict.
use Rattle.std.specs.Prelude.{◌≡◌, ◌≢◌, ℕ, List, Result, Ok, Err, Option, None, Some, slice_get}
use Rattle.std.specs.Cmp.Lexicographic.{slice_cmp}
use Rattle.std.specs.Ordering.{is_eq, nat_cmp, ordering_then}
use Rattle.std.specs.declared.cmp.Ordering.{Ordering}
use Rattle.std.specs.declared.cmp.Ordering.TheVariants.{Less, Equal, Greater}
use Rattle.std.proofs.Common.{◌∙◌, refl, sym, ap, ⊎_elim}
use Rattle.std.proofs.lemmas.Cmp.{ranked}
use Rattle.std.proofs.lemmas.Map.Text.{is_eq-slice_cmp}
use Rattle.std.proofs.lemmas.Slice.Eq.{bytes_eq-Decides}
use Rattle.mm_objects.specs.declared.objects.ObjUnit.{ObjUnit}
use Rattle.mm_objects.specs.declared.objects.Objects.{Objects}
use Rattle.mm_objects.specs.declared.target.Target.{Target}
use Rattle.mm_link.specs.Linking.{IsDouble, IsUndefined, IsVerdict, name_at}
use Rattle.mm_objects.specs.Linking.{IsLinked, clash_cmp, target_cmp}
use Rattle.mm_objects.specs.declared.target.Clash.{Clash}
use Rattle.mm_link.specs.declared.fault.LinkFault.{LinkFault}
use Rattle.mm_link.specs.declared.fault.LinkFault.TheVariants as fault
use Rattle.mm_objects.specs.declared.target.Linked.{Linked}
use Rattle.mm_link.proofs.Least.{clash_cmp_total, turned}

-- ---- the least clash

both_equal : (r s : Ordering) → ordering_then r s ≡ Equal → (r ≡ Equal) × (s ≡ Equal)
both_equal Less s e = absurd (cc e)
both_equal Equal s e = (refl, e)
both_equal Greater s e = absurd (cc e)

same_symbol : (s t : List ℕ) → slice_cmp nat_cmp s t ≡ Equal → s ≡ t
same_symbol s t e = (bytes_eq-Decides s t).0 (sym (is_eq-slice_cmp s t) ∙ ap is_eq e)

same_unit : (t u : Target) → target_cmp t u ≡ Equal → t.unit ≡ u.unit
same_unit t u e = ranked t.unit u.unit Equal (sym (both_equal (nat_cmp t.unit u.unit) (nat_cmp t.def u.def) e).0)

neither_less : (x y : Clash) → clash_cmp x y ≢ Less → clash_cmp y x ≢ Less → clash_cmp y x ≡ Equal
neither_less x y n m = ⊎_elim (λ l. absurd (n l)) (λ e. e) (turned (clash_cmp x y) (clash_cmp y x) (clash_cmp_total.antisymm x y) m)

-- clashes that are tied have one symbol and stand in the same units
tied_clashes : (x y : Clash) → clash_cmp x y ≡ Equal → (x.symbol ≡ y.symbol) × (x.first.unit ≡ y.first.unit) × (x.second.unit ≡ y.second.unit)
tied_clashes x y e =
    let parts = both_equal (slice_cmp nat_cmp x.symbol y.symbol) (ordering_then (target_cmp x.first y.first) (target_cmp x.second y.second)) e in
    let places = both_equal (target_cmp x.first y.first) (target_cmp x.second y.second) parts.1 in
    (same_symbol x.symbol y.symbol parts.0, same_unit x.first y.first places.0, same_unit x.second y.second places.1)

named_alike : (us : List ObjUnit) (n m : ℕ) (s t : List ℕ) → s ≡ name_at (slice_get us n) → t ≡ name_at (slice_get us m) → n ≡ m → s ≡ t
named_alike us n m s t a b e = a ∙ ap (λ k. name_at (slice_get us k)) e ∙ sym b

same_double : (s t a b c d : List ℕ) → s ≡ t → a ≡ b → c ≡ d → fault.Double s a c ≡ fault.Double t b d
same_double s t a b c d e f g = ap (λ x. fault.Double x a c) e ∙ ap (λ x. fault.Double t x c) f ∙ ap (λ x. fault.Double t b x) g

double_one : (us : List ObjUnit) (s t a b c d : List ℕ) → IsDouble us s a c → IsDouble us t b d → fault.Double s a c ≡ fault.Double t b d
double_one us s t a b c d x y =
    let tied = tied_clashes x.clash y.clash (neither_less y.clash x.clash (x.least y.clash y.clashes) (y.least x.clash x.clashes)) in
    same_double s t a b c d
    (x.symbol_is ∙ tied.0 ∙ sym y.symbol_is)
    (named_alike us x.clash.first.unit y.clash.first.unit a b x.first_is y.first_is tied.1)
    (named_alike us x.clash.second.unit y.clash.second.unit c d x.second_is y.second_is tied.2)

-- ---- what is found

one_found : {X : Type 0} (o : Option X) (x y : X) → o ≡ Some x → o ≡ Some y → x ≡ y
one_found o x y e f = cc (sym e ∙ f)

none_or_found : {X : Type 0} (o : Option X) (x : X) → o ≡ None → o ≡ Some x → ⊥
none_or_found o x e f = absurd (cc (sym e ∙ f))

undefined_one : (o : Objects) (u v s t : List ℕ) → IsUndefined o u s → IsUndefined o v t → fault.Undefined u s ≡ fault.Undefined v t
undefined_one o u v s t x y =
    let same = one_found _ x.reference y.reference x.first y.first in
    ap (λ k. fault.Undefined k s) (named_alike o.units x.reference.0 y.reference.0 u v x.unit_is y.unit_is (ap (λ r. r.0) same))
    ∙ ap (fault.Undefined v) (x.symbol_is ∙ ap (λ r. r.1) same ∙ sym y.symbol_is)

-- ---- the verdict

pub linked_one : (o : Objects) (one other : Linked) → IsLinked o one → IsLinked o other → one ≡ other
linked_one o one other a b =
    ap (λ k. record { objects = k; main = one.main }) (a.objects ∙ sym b.objects)
    ∙ ap (λ t. record { objects = other.objects; main = t }) (one_found _ one.main other.main a.main b.main)

pub verdict_one : (o : Objects) (one other : LinkFault) → IsVerdict o (Err one) → IsVerdict o (Err other) → one ≢ fault.NoMemory → other ≢ fault.NoMemory → one ≡ other
verdict_one o fault.NoMemory other a b n m = absurd (n refl)
verdict_one o (fault.Double s a c) (fault.Double t b d) x y n m = double_one o.units s t a b c d x y
verdict_one o (fault.Double s a c) (fault.Undefined v t) x y n m = absurd (y.one x.clash x.clashes)
verdict_one o (fault.Double s a c) fault.NoMain x y n m = absurd (y.one x.clash x.clashes)
verdict_one o (fault.Double s a c) fault.NoMemory x y n m = absurd (m refl)
verdict_one o (fault.Undefined u s) (fault.Double t b d) x y n m = absurd (x.one y.clash y.clashes)
verdict_one o (fault.Undefined u s) (fault.Undefined v t) x y n m = undefined_one o u v s t x y
verdict_one o (fault.Undefined u s) fault.NoMain x y n m = absurd (none_or_found _ x.reference y.all x.first)
verdict_one o (fault.Undefined u s) fault.NoMemory x y n m = absurd (m refl)
verdict_one o fault.NoMain (fault.Double t b d) x y n m = absurd (x.one y.clash y.clashes)
verdict_one o fault.NoMain (fault.Undefined v t) x y n m = absurd (none_or_found _ y.reference x.all y.first)
verdict_one o fault.NoMain fault.NoMain x y n m = refl
verdict_one o fault.NoMain fault.NoMemory x y n m = absurd (m refl)

pub linked_or_fault : (o : Objects) (image : Linked) (f : LinkFault) → IsLinked o image → IsVerdict o (Err f) → f ≢ fault.NoMemory → ⊥
linked_or_fault o image (fault.Double s a c) x y n = x.one y.clash y.clashes
linked_or_fault o image (fault.Undefined u s) x y n = none_or_found _ y.reference x.all y.first
linked_or_fault o image fault.NoMain x y n = none_or_found _ image.main y.none x.main
linked_or_fault o image fault.NoMemory x y n = n refl

-- the fault is not out of memory, where the verdict is not
not_memory : (f : LinkFault) (r : Result Linked LinkFault) → r ≡ Err f → r ≢ Err fault.NoMemory → f ≢ fault.NoMemory
not_memory f r is n e = n (is ∙ ap (λ g. Err g) e)

pub one_result : (o : Objects) (one other : Result Linked LinkFault) → IsVerdict o one → IsVerdict o other → one ≢ Err fault.NoMemory → other ≢ Err fault.NoMemory → one ≡ other
one_result o (Ok one) (Ok other) a b n m = ap (λ k. Ok k) (linked_one o one other a b)
one_result o (Ok one) (Err other) a b n m = absurd (linked_or_fault o one other a b (not_memory other (Err other) refl m))
one_result o (Err one) (Ok other) a b n m = absurd (linked_or_fault o other one b a (not_memory one (Err one) refl n))
one_result o (Err one) (Err other) a b n m = ap (λ f. Err f) (verdict_one o one other a b (not_memory one (Err one) refl n) (not_memory other (Err other) refl m))
