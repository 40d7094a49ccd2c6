-- Words and lines are cut where they were joined.
use Rattle.std.proofs.Common.{◌≡◌, ℕ, Bool, true, false, not, ◌||◌, eqb, List, [], ◌∷◌, ◌++◌, map, All, refl, ap, sym, ◌∙◌, append_assoc, append-nil, flat_map}
use Rattle.std.proofs.lemmas.Bool.{and_parts}
use Rattle.std.specs.List.{list_all, slice_split, join_with_byte}
use Rattle.std.proofs.lemmas.List.Elements.{All-nil, All-cons, All-head, All-tail, All-append}
use Rattle.std.proofs.lemmas.List.Splits.{slice_split_at, slice_split_none, join_with_byte-slice_split}
use Rattle.mm_objects.specs.declared.objects.Objects.{Objects}
use Rattle.mm_objects.specs.ObjectText.{Word, Line, line_text, written, lines_of, objects_text}
use Rattle.mm_objects.specs.ObjectForms.{AreObjects}
use Rattle.mm_objects.proofs.SymbolBytes.{is_graphic, IsClean}
use Rattle.mm_objects.proofs.CleanLemmas.{AreClean, IsCleanLine, lines-clean}

-- the byte does not stand in it
abbrev pub HasNo : ℕ → List ℕ → Type 0
HasNo c bytes = All (λ b. eqb b c ≡ false) bytes

abbrev pub cut_at : ℕ → List ℕ → List (List ℕ)
cut_at c bytes = slice_split (λ b. eqb b c) bytes

-- each line ended by LF
abbrev pub ended : List (List ℕ) → List ℕ
ended lines = flat_map (λ line. line ++ 10 ∷ []) lines

graphic-is : (c : ℕ) → is_graphic c ≡ true → (eqb c 32 ≡ false) × (eqb c 10 ≡ false)
graphic-is c h = parts (eqb c 32) (eqb c 10) h
  where
    parts : (a b : Bool) → not (a || b) ≡ true → (a ≡ false) × (b ≡ false)
    parts true b h = cc
    parts false true h = cc
    parts false false h = (refl, refl)

clean-no_blank : (w : Word) → IsClean w → HasNo 32 w
clean-no_blank [] h = All-nil (λ b. eqb b 32 ≡ false)
clean-no_blank (c ∷ cs) h = let p = and_parts (is_graphic c) (list_all is_graphic cs) h in All-cons (λ b. eqb b 32 ≡ false) c cs (graphic-is c p.0).0 (clean-no_blank cs p.1)

clean-no_end : (w : Word) → IsClean w → HasNo 10 w
clean-no_end [] h = All-nil (λ b. eqb b 10 ≡ false)
clean-no_end (c ∷ cs) h = let p = and_parts (is_graphic c) (list_all is_graphic cs) h in All-cons (λ b. eqb b 10 ≡ false) c cs (graphic-is c p.0).1 (clean-no_end cs p.1)

cut-words : (w : Word) (ws : Line) → AreClean (w ∷ ws) → cut_at 32 (join_with_byte 32 (w ∷ ws)) ≡ w ∷ ws
cut-words w [] all = slice_split_none (λ b. eqb b 32) w (clean-no_blank w (and_parts (list_all is_graphic w) true all).0)
cut-words w (v ∷ vs) all =
    let p = and_parts (list_all is_graphic w) (list_all (list_all is_graphic) (v ∷ vs)) all in
    slice_split_at (λ b. eqb b 32) w 32 (join_with_byte 32 (v ∷ vs)) (clean-no_blank w p.0) refl
    ∙ ap (λ l. w ∷ l) (cut-words v vs p.1)

-- a line is cut into its words
pub cut-line : (ws : Line) → IsCleanLine ws → cut_at 32 (join_with_byte 32 ws) ≡ ws
cut-line [] is = absurd (is.some refl)
cut-line (w ∷ ws) is = cut-words w ws is.each

words-no_end : (w : Word) (ws : Line) → AreClean (w ∷ ws) → HasNo 10 (join_with_byte 32 (w ∷ ws))
words-no_end w [] all = clean-no_end w (and_parts (list_all is_graphic w) true all).0
words-no_end w (v ∷ vs) all =
    let p = and_parts (list_all is_graphic w) (list_all (list_all is_graphic) (v ∷ vs)) all in
    All-append (λ b. eqb b 10 ≡ false) w (32 ∷ join_with_byte 32 (v ∷ vs)) (clean-no_end w p.0)
    (All-cons (λ b. eqb b 10 ≡ false) 32 (join_with_byte 32 (v ∷ vs)) refl (words-no_end v vs p.1))

line-no_end : (ws : Line) → IsCleanLine ws → HasNo 10 (join_with_byte 32 ws)
line-no_end [] is = absurd (is.some refl)
line-no_end (w ∷ ws) is = words-no_end w ws is.each

-- lines that are ended are cut where they end
pub cut-ended : (lines : List (List ℕ)) (behind : List ℕ) → All (HasNo 10) lines → cut_at 10 (ended lines ++ behind) ≡ lines ++ cut_at 10 behind
cut-ended [] behind all = refl
cut-ended (l ∷ ls) behind all =
    ap (cut_at 10) (append_assoc (l ++ 10 ∷ []) (ended ls) behind ∙ append_assoc l (10 ∷ []) (ended ls ++ behind))
    ∙ slice_split_at (λ b. eqb b 10) l 10 (ended ls ++ behind) (All-head (HasNo 10) l ls all) refl
    ∙ ap (λ parts. l ∷ parts) (cut-ended ls behind (All-tail (HasNo 10) l ls all))

-- parts that are joined at line ends are the lines before the last, each ended, and the last
pub joined-lines : (lines : List (List ℕ)) (last : List ℕ) → join_with_byte 10 (lines ++ last ∷ []) ≡ ended lines ++ last
joined-lines [] last = refl
joined-lines (l ∷ []) last = sym (append_assoc l (10 ∷ []) last) ∙ ap (λ t. t ++ last) (sym (append-nil (l ++ 10 ∷ [])))
joined-lines (l ∷ m ∷ ms) last =
    ap (λ t. l ++ 10 ∷ t) (joined-lines (m ∷ ms) last)
    ∙ sym (append_assoc l (10 ∷ []) (ended (m ∷ ms) ++ last))
    ∙ sym (append_assoc (l ++ 10 ∷ []) (ended (m ∷ ms)) last)

-- what is cut at line ends
pub cut-is : (bytes : List ℕ) (lines : List (List ℕ)) (last : List ℕ) → cut_at 10 bytes ≡ lines ++ last ∷ [] → bytes ≡ ended lines ++ last
cut-is bytes lines last h = sym (join_with_byte-slice_split 10 bytes) ∙ ap (join_with_byte 10) h ∙ joined-lines lines last

written-ended : (ls : List Line) → written ls ≡ ended (map (join_with_byte 32) ls)
written-ended [] = refl
written-ended (l ∷ ls) = ap (λ t. line_text l ++ t) (written-ended ls)

lines-no_end : (ls : List Line) → All IsCleanLine ls → All (HasNo 10) (map (join_with_byte 32) ls)
lines-no_end [] all = All-nil (HasNo 10)
lines-no_end (l ∷ ls) all = All-cons (HasNo 10) (join_with_byte 32 l) (map (join_with_byte 32) ls) (line-no_end l (All-head IsCleanLine l ls all)) (lines-no_end ls (All-tail IsCleanLine l ls all))

-- the text of objects is cut into their lines, behind which nothing stands
pub cut-text : (o : Objects) → AreObjects o → cut_at 10 (objects_text o) ≡ map (join_with_byte 32) (lines_of o) ++ [] ∷ []
unfolding objects_text
cut-text o are =
    ap (cut_at 10) (written-ended (lines_of o) ∙ sym (append-nil (ended (map (join_with_byte 32) (lines_of o)))))
    ∙ cut-ended (map (join_with_byte 32) (lines_of o)) [] (lines-no_end (lines_of o) (lines-clean o are))

-- lines are cut into the words of which they were made
pub cut-lines : (ls : List Line) → All IsCleanLine ls → map (cut_at 32) (map (join_with_byte 32) ls) ≡ ls
cut-lines [] all = refl
cut-lines (l ∷ ls) all = λ i. cut-line l (All-head IsCleanLine l ls all) i ∷ cut-lines ls (All-tail IsCleanLine l ls all) i

-- the text of lines that are made of the words of lines is these lines
pub written-cut : (lines : List (List ℕ)) → written (map (cut_at 32) lines) ≡ ended lines
written-cut [] = refl
written-cut (l ∷ ls) = λ i. (join_with_byte-slice_split 32 l i ++ 10 ∷ []) ++ written-cut ls i
