-- No name has a colon, so what stands before the first one is the name.
use Rattle.std.proofs.Common.{◌≡◌, ◌≢◌, ℕ, List, [], ◌∷◌, ◌++◌, true, refl, sym, ◌∙◌, ap, subst, append_assoc, arith}
use Rattle.std.specs.Prelude.{All}
use Rattle.std.specs.Str.{chars, encode_utf8_all}
use Rattle.std.proofs.Math.Utf8.{encode}
use Rattle.std.proofs.lemmas.Bool.{both_ways}
use Rattle.std.proofs.lemmas.List.Elements.{All-cons, All-head, All-tail, All-weaker}
use Rattle.std.proofs.lemmas.Str.{encodes-chars, encode_ascii, encode_same}
use Rattle.unicode_ident.specs.Ident.{is_xid_continue}
use Rattle.unicode_ident.proofs.IdentLemmas.{is_xid_continue-ascii}
use Rattle.mm_names.specs.Names.{starts_name, IsNameLike, IsName}
use Rattle.mm_names.proofs.NameLemmas.{starts_name-ascii}

abbrev IsOther : ℕ → Type 0
IsOther c = c ≢ 58

other_later : (c : ℕ) → is_xid_continue c ≡ true → IsOther c
other_later c goes is = both_ways (is_xid_continue 58) (is_xid_continue-ascii 58 (omega arith)) (subst (λ d. is_xid_continue d ≡ true) is goes)

other_first : (c : ℕ) → starts_name c ≡ true → IsOther c
other_first c starts is = both_ways (starts_name 58) (starts_name-ascii 58 (omega arith)) (subst (λ d. starts_name d ≡ true) is starts)

no_colon : (cs : List ℕ) → IsNameLike cs → All IsOther cs
no_colon [] like = absurd like
no_colon (c ∷ cs) like =
    All-cons IsOther c cs (other_first c like.0) (All-weaker (λ d. is_xid_continue d ≡ true) IsOther other_later cs like.1)

-- a character other than a colon does not begin where a colon does
not_here : (c : ℕ) (cs r s : List ℕ) → IsOther c → 58 ∷ r ≡ encode_utf8_all (c ∷ cs) ++ 58 ∷ s → ⊥
not_here c cs r s other same =
    let both = encode_same 58 c r (encode_utf8_all cs ++ 58 ∷ s)
    (ap (λ prefix. prefix ++ r) (encode_ascii 58 (omega arith)) ∙ same ∙ append_assoc (encode c) (encode_utf8_all cs) (58 ∷ s)) in
    other (sym both.0)

one_prefix : (cs ds r s : List ℕ) → All IsOther cs → All IsOther ds → encode_utf8_all cs ++ 58 ∷ r ≡ encode_utf8_all ds ++ 58 ∷ s → cs ≡ ds
one_prefix [] [] r s cs_other ds_other same = refl
one_prefix [] (d ∷ ds) r s cs_other ds_other same = absurd (not_here d ds r s (All-head IsOther d ds ds_other) same)
one_prefix (c ∷ cs) [] r s cs_other ds_other same = absurd (not_here c cs s r (All-head IsOther c cs cs_other) (sym same))
one_prefix (c ∷ cs) (d ∷ ds) r s cs_other ds_other same =
    let both = encode_same c d (encode_utf8_all cs ++ 58 ∷ r) (encode_utf8_all ds ++ 58 ∷ s)
    (sym (append_assoc (encode c) (encode_utf8_all cs) (58 ∷ r)) ∙ same ∙ append_assoc (encode d) (encode_utf8_all ds) (58 ∷ s)) in
    let rest = one_prefix cs ds r s (All-tail IsOther c cs cs_other) (All-tail IsOther d ds ds_other) both.1 in
    λ i. both.0 i ∷ rest i

-- two names before colons, where all is the same, are one
pub one_name : (n m r s : List ℕ) → IsName n → IsName m → n ++ 58 ∷ r ≡ m ++ 58 ∷ s → n ≡ m
one_name n m r s is other same =
    let whole = one_prefix (chars n) (chars m) r s (no_colon (chars n) is.form) (no_colon (chars m) other.form)
    (ap (λ prefix. prefix ++ 58 ∷ r) (encodes-chars n is.utf8) ∙ same ∙ sym (ap (λ prefix. prefix ++ 58 ∷ s) (encodes-chars m other.utf8))) in
    sym (encodes-chars n is.utf8) ∙ ap encode_utf8_all whole ∙ encodes-chars m other.utf8
