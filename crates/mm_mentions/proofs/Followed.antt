-- What is mentioned by the parts of a form, one after the other, is mentioned by the form.
use Rattle.std.proofs.Common.{◌≡◌, List, ◌++◌, Result, Ok, Err, OnOk, sym, ◌∙◌, ap}
use Rattle.std.proofs.lemmas.List.{append_assoc}

module _ {A E X : Type 0} (r : Result A E) (new old : List X) where
  -- the first part and then the others
  pub followed : (middle front back whole : List X) → middle ≡ old ++ front → whole ≡ front ++ back → OnOk r (new ≡ middle ++ back) → OnOk r (new ≡ old ++ whole)
  followed = by_case r where
    by_case : (s : Result A E) (middle front back whole : List X) → middle ≡ old ++ front → whole ≡ front ++ back → OnOk s (new ≡ middle ++ back) → OnOk s (new ≡ old ++ whole)
    by_case (Ok x) middle front back whole first is all = all ∙ ap (λ l. l ++ back) first ∙ append_assoc old front back ∙ ap (λ l. old ++ l) (sym is)
    by_case (Err e) middle front back whole first is all = tt

  -- the same list, said in another way
  pub said_as : (part whole : List X) → whole ≡ part → OnOk r (new ≡ old ++ part) → OnOk r (new ≡ old ++ whole)
  said_as = by_case r where
    by_case : (s : Result A E) (part whole : List X) → whole ≡ part → OnOk s (new ≡ old ++ part) → OnOk s (new ≡ old ++ whole)
    by_case (Ok x) part whole is all = all ∙ ap (λ l. old ++ l) (sym is)
    by_case (Err e) part whole is all = tt
