-- A map by bytes, after a change at some bytes.
use Rattle.std.specs.Prelude.{◌≡◌, ℕ, Bool, true, false, cond, List, Option, None, Some, is_some}
use Rattle.std.proofs.lemmas.Cmp.{nat_list_eq_equiv}
use Rattle.std.specs.Global.{Vec}
use Rattle.std.specs.HashMap.{HashMap, UpdatesBy}
use Rattle.std.specs.Map.{lookup, IsKeyTest, AreApart, KeepsOthers}
use Rattle.std.specs.Option.{option_or}
use Rattle.std.specs.Str.{bytes_eq}
use Rattle.std.proofs.Common.{◌∙◌, refl, sym, ap, subst, ⊎_elim}
use Rattle.std.proofs.lemmas.Bool.{cases_Bool, cond-true, cond-false}
use Rattle.std.proofs.lemmas.Slice.Eq.{bytes_eq-Decides}
use Rattle.mm_link.specs.Index.{look_up}

apart : (bs cs ks : List ℕ) → bytes_eq bs cs ≡ false → bytes_eq bs ks ≡ true → bytes_eq cs ks ≡ false
apart bs cs ks n y = nat_list_eq_equiv.symm cs ks ∙ sym (nat_list_eq_equiv.congr bs ks cs y) ∙ n

module _ {X S : Type 0} (m n : HashMap (Vec ℕ) X S) where
  others : (eq : Vec ℕ → Vec ℕ → Bool) (test : Vec ℕ → Bool) → KeepsOthers eq test m.entries n.entries → (other : Vec ℕ → Bool) → IsKeyTest eq other → AreApart test other → lookup other n.entries ≡ lookup other m.entries
  unfolding KeepsOthers
  others eq test h = h

  -- the lookup of these bytes gives the new value, and of others what it gave
  pub updated : (bs : List ℕ) (w : Option X) → UpdatesBy (λ x y. bytes_eq x.items y.items) (λ k. bytes_eq bs k.items) m n w → (cs : List ℕ) → look_up n cs ≡ cond (bytes_eq bs cs) w (look_up m cs)
  updated bs w h cs =
      ⊎_elim
      (λ y. subst (λ l. look_up n l ≡ w) ((bytes_eq-Decides bs cs).0 y) h.1 ∙ sym (cond-true (bytes_eq bs cs) w (look_up m cs) y))
      (λ other. others _ _ h.3 (λ k. bytes_eq cs k.items) (λ x y. nat_list_eq_equiv.congr cs x.items y.items) (λ k. apart bs cs k.items other) ∙ sym (cond-false (bytes_eq bs cs) w (look_up m cs) other))
      (cases_Bool (bytes_eq bs cs))

none_if : {X : Type 0} (o : Option X) → is_some o ≡ false → o ≡ None
none_if None missing = refl
none_if (Some x) missing = absurd (cc missing)

-- where these bytes were not there, the change adds them alone
pub noted : {X : Type 0} (f : List ℕ → Option X) (bs : List ℕ) (x : X) → is_some (f bs) ≡ false → (s : List ℕ) → cond (bytes_eq bs s) (Some x) (f s) ≡ option_or (f s) (cond (bytes_eq bs s) (Some x) None)
noted {X} f bs x missing s = at (bytes_eq bs s) refl
  where
    behind : (o : Option X) → o ≡ option_or o None
    behind None = refl
    behind (Some y) = refl

    at : (b : Bool) → bytes_eq bs s ≡ b → cond b (Some x) (f s) ≡ option_or (f s) (cond b (Some x) None)
    at true e = ap (λ o. option_or o (Some x)) (sym (ap f (sym ((bytes_eq-Decides bs s).0 e)) ∙ none_if (f bs) missing))
    at false e = behind (f s)
