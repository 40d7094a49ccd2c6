-- The lines of objects as they are written piece by piece.
use Rattle.std.proofs.Common.{◌≡◌, ℕ, List, [], ◌∷◌, ◌++◌, length, map, refl, ap, sym, ◌∙◌, append_assoc, append-nil, flat_map, ◌<◌, ◌+◌, take, get_or, length-take, arith}
use Rattle.std.specs.List.{join_with_byte, enumerate_from}
use Rattle.std.proofs.lemmas.Grind.{flat_map-append}
use Rattle.std.proofs.lemmas.List.{take_more}
use Rattle.mm_objects.specs.declared.objects.ObjBlock.{ObjBlock}
use Rattle.mm_objects.specs.declared.objects.ObjEnd.{ObjEnd}
use Rattle.mm_objects.specs.declared.objects.ObjInstr.{ObjInstr}
use Rattle.mm_objects.specs.ObjectText.{Word, Line, instr_words, end_words, block_lines, line_text, written}
use Rattle.mm_objects.proofs.SoundSteps.{enumerate-more, flat_map-more}
use Rattle.mm_objects.specs.Written.{spaced, pieces}

-- the first word, and then each other behind a blank
pub joined_spaced : (w : Word) (ws : Line) → join_with_byte 32 (w ∷ ws) ≡ w ++ spaced ws
joined_spaced w [] = sym (append-nil w)
joined_spaced w (v ∷ vs) = ap (λ l. w ++ 32 ∷ l) (joined_spaced v vs)

spaced_more : (xs ys : Line) → spaced (xs ++ ys) ≡ spaced xs ++ spaced ys
spaced_more xs ys = flat_map-append (λ word. 32 ∷ word) xs ys

pub written_more : (xs ys : List Line) → written (xs ++ ys) ≡ written xs ++ written ys
written_more xs ys = flat_map-append line_text xs ys

pub pieces_joined : (ws : Line) → pieces ws ≡ join_with_byte 32 ws
pieces_joined [] = refl
pieces_joined (w ∷ ws) = sym (joined_spaced w ws)

pub instrs_then_end : (instrs : List ObjInstr) (e : ObjEnd) → written (map instr_words instrs ++ end_words e ∷ []) ≡ written (map instr_words instrs) ++ pieces (end_words e) ++ 10 ∷ []
instrs_then_end instrs e =
    written_more (map instr_words instrs) (end_words e ∷ [])
    ∙ ap (λ l. written (map instr_words instrs) ++ l) (append-nil (line_text (end_words e)) ∙ ap (λ l. l ++ 10 ∷ []) (sym (pieces_joined (end_words e))))
    ∙ sym (append_assoc (written (map instr_words instrs)) (pieces (end_words e)) (10 ∷ []))

pub wrote_body : (out : List ℕ) (instrs : List ObjInstr) (e : ObjEnd) (one two three : List ℕ) → one ≡ out ++ written (map instr_words instrs) → two ≡ one ++ pieces (end_words e) → three ≡ two ++ 10 ∷ []
    → three ≡ out ++ written (map instr_words instrs ++ end_words e ∷ [])
wrote_body out instrs e one two three first second third =
    third ∙ ap (λ l. l ++ 10 ∷ []) (second ∙ ap (λ l. l ++ pieces (end_words e)) first)
    ∙ append_assoc (out ++ written (map instr_words instrs)) (pieces (end_words e)) (10 ∷ [])
    ∙ append_assoc out (written (map instr_words instrs)) (pieces (end_words e) ++ 10 ∷ [])
    ∙ ap (λ l. out ++ l) (sym (append_assoc (written (map instr_words instrs)) (pieces (end_words e)) (10 ∷ [])) ∙ sym (instrs_then_end instrs e))

pub blocks_more : (blocks : List ObjBlock) (i k : ℕ) (d b : ObjBlock) (out now new : List ℕ) → i < length blocks → k ≡ i → get_or blocks i d ≡ b
    → now ≡ out ++ written (flat_map block_lines (enumerate_from 0 (take i blocks))) → new ≡ now ++ written (block_lines (k, b))
    → new ≡ out ++ written (flat_map block_lines (enumerate_from 0 (take (i + 1) blocks)))
blocks_more blocks i k d b out now new within same is wrote writes =
    let so_far = take i blocks in
    let count : length so_far ≡ i = omega (arith, length-take i blocks) in
    let more : take (i + 1) blocks ≡ so_far ++ b ∷ [] = take_more blocks i d within ∙ ap (λ x. so_far ++ x ∷ []) is in
    let lines : flat_map block_lines (enumerate_from 0 (take (i + 1) blocks)) ≡ flat_map block_lines (enumerate_from 0 so_far) ++ block_lines (k, b) =
    ap (λ l. flat_map block_lines (enumerate_from 0 l)) more ∙ ap (flat_map block_lines) (enumerate-more so_far b) ∙ flat_map-more block_lines (enumerate_from 0 so_far) (length so_far, b)
    ∙ ap (λ n. flat_map block_lines (enumerate_from 0 so_far) ++ block_lines (n, b)) (count ∙ sym same) in
    writes ∙ ap (λ l. l ++ written (block_lines (k, b))) wrote ∙ append_assoc out (written (flat_map block_lines (enumerate_from 0 so_far))) (written (block_lines (k, b)))
    ∙ ap (λ l. out ++ l) (sym (written_more (flat_map block_lines (enumerate_from 0 so_far)) (block_lines (k, b))) ∙ ap written (sym lines))
