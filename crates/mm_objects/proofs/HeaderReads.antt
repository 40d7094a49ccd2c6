-- Laws of the readers of the first line of a function, of labels, and of lines with a name.
use Rattle.std.proofs.Common.{◌≡◌, ℕ, ◌<◌, ◌≤◌, ◌^◌, ◌-◌, eqb, ltb, ◌&&◌, List, [], ◌∷◌, ◌++◌, codes, Some, None, refl, ap, sym, ◌∙◌, subst, arith}
use Rattle.std.specs.Fmt.{decimal}
use Rattle.std.proofs.lemmas.Bool.{and_parts, ltb-true, lt-ltb, eqb-true}
use Rattle.std.proofs.lemmas.Option.{cond_some}
use Rattle.mm_names.specs.Decimals.{number_in}
use Rattle.mm_objects.specs.declared.objects.Linkage.{Linkage}
use Rattle.mm_objects.specs.declared.progress.Header.{Header}
use Rattle.mm_objects.specs.ObjectNames.{IsCodeSymbol}
use Rattle.mm_objects.specs.ObjectText.{Word, Line, linkage_text, fn_line, label_line}
use Rattle.mm_objects.specs.LineReading.{behind, symbol_in, linkage_in, first_of, only_of, both_of, counts_in, header_in, named_in, label_in}
use Rattle.mm_objects.proofs.ReadTools.{some_same, bind_some, keyed_only, key_at, behind-sound, number-reads, eqb-self}
use Rattle.mm_objects.proofs.NameLaws.{symbol-reads}
use Rattle.mm_objects.proofs.WordReads.{linkage-reads}
use Rattle.mm_objects.proofs.LineReads.{first-is, only-is, both-is}

-- the first line of a function
abbrev pub header_line : Header → Line
header_line h = fn_line h.symbol h.link h.params h.locals h.blocks

pub record IsHeader (h : Header) : Type 0 where
  pub symbol_is : IsCodeSymbol h.symbol
  pub above_params : h.params < h.locals
  pub few_locals : h.locals ≤ 65536
  pub some_block : 0 < h.blocks
  pub few_blocks : h.blocks < 2 ^ 64

pub record HasCounts (symbol : List ℕ) (link : Linkage) (ws : Line) (h : Header) : Type 0 where
  pub symbol_is : h.symbol ≡ symbol
  pub link_is : h.link ≡ link
  pub above_params : h.params < h.locals
  pub few_locals : h.locals ≤ 65536
  pub some_block : 0 < h.blocks
  pub few_blocks : h.blocks < 2 ^ 64
  pub is : decimal h.params ∷ decimal h.locals ∷ decimal h.blocks ∷ [] ≡ ws

counts-sound : (symbol : List ℕ) (link : Linkage) (ws : Line) (h : Header) → counts_in symbol link ws ≡ Some h → HasCounts symbol link ws h
unfolding counts_in
counts-sound symbol link ws h e =
    let x = bind_some (first_of ws) _ h e in
    let params = bind_some (number_in 65535 x.0.0) _ h x.2 in
    let y = bind_some (both_of x.0.1) _ h params.2 in
    let locals = bind_some (number_in 65536 y.0.0) _ h y.2 in
    let blocks = bind_some (number_in (2 ^ 64 - 1) y.0.1) _ h locals.2 in
    let c = cond_some (ltb params.0 locals.0 && ltb 0 blocks.0) (record { symbol = symbol; link = link; params = params.0; locals = locals.0; blocks = blocks.0 }) h blocks.2 in
    let tests = and_parts (ltb params.0 locals.0) (ltb 0 blocks.0) c.0 in
    let p = (number-reads 65535 (omega arith)).sound x.0.0 params.0 params.1 in
    let l = (number-reads 65536 (omega arith)).sound y.0.0 locals.0 locals.1 in
    let b = (number-reads (2 ^ 64 - 1) (omega arith)).sound y.0.1 blocks.0 blocks.1 in
    subst (HasCounts symbol link ws) c.1 (record {
      symbol_is = refl;
      link_is = refl;
      above_params = ltb-true params.0 locals.0 tests.0;
      few_locals = l.0;
      some_block = ltb-true 0 blocks.0 tests.1;
      few_blocks = omega (arith, b.0);
      is = (λ i. p.1 i ∷ l.1 i ∷ b.1 i ∷ []) ∙ ap (λ l. x.0.0 ∷ l) (both-is x.0.1 y.0 y.1) ∙ first-is ws x.0.0 x.0.1 x.1;
    })

pub header-sound : (ws : Line) (h : Header) → header_in ws ≡ Some h → IsHeader h × (header_line h ≡ codes "fn" ∷ ws)
unfolding header_in
header-sound ws h e =
    let x = bind_some (first_of ws) _ h e in
    let symbol = bind_some (symbol_in x.0.0) _ h x.2 in
    let y = bind_some (first_of x.0.1) _ h symbol.2 in
    let link = bind_some (linkage_in y.0.0) _ h y.2 in
    let s = symbol-reads.sound x.0.0 symbol.0 symbol.1 in
    let k = linkage-reads.sound y.0.0 link.0 link.1 in
    let c = counts-sound symbol.0 link.0 y.0.1 h link.2 in (
      record { symbol_is = subst IsCodeSymbol (sym c.symbol_is) s.0; above_params = c.above_params; few_locals = c.few_locals; some_block = c.some_block; few_blocks = c.few_blocks },
      (λ i. codes "fn" ∷ (c.symbol_is ∙ s.1) i ∷ (ap linkage_text c.link_is ∙ k.1) i ∷ c.is i) ∙ ap (λ l. codes "fn" ∷ x.0.0 ∷ l) (first-is x.0.1 y.0.0 y.0.1 y.1) ∙ ap (λ l. codes "fn" ∷ l) (first-is ws x.0.0 x.0.1 x.1),
    )

-- the words behind `fn`
abbrev pub header_words : Header → Line
header_words h = h.symbol ∷ linkage_text h.link ∷ decimal h.params ∷ decimal h.locals ∷ decimal h.blocks ∷ []

pub header-again : (h : Header) → IsHeader h → header_in (header_words h) ≡ Some h
unfolding header_in counts_in
header-again h is =
    rw (
      symbol-reads.again h.symbol is.symbol_is,
      linkage-reads.again h.link tt,
      (number-reads 65535 (omega arith)).again h.params (omega (arith, is.above_params, is.few_locals)),
      (number-reads 65536 (omega arith)).again h.locals is.few_locals,
      (number-reads (2 ^ 64 - 1) (omega arith)).again h.blocks (omega (arith, is.few_blocks)),
      lt-ltb h.params h.locals is.above_params,
      lt-ltb 0 h.blocks is.some_block,
    ) refl

pub named-sound : (key : Word) (ws : Line) (w : Word) → named_in key ws ≡ Some w → key ∷ w ∷ [] ≡ ws
unfolding named_in
named-sound key ws w h =
    let p = bind_some (both_of ws) _ w h in
    let k = keyed_only p.0.0 key _ w p.2 in
    (λ i. sym k.0 i ∷ sym (some_same _ _ k.1) i ∷ []) ∙ both-is ws p.0 p.1

pub named-again : (key w : Word) → named_in key (key ∷ w ∷ []) ≡ Some w
unfolding named_in
named-again key w = key_at key (Some w) None

pub label-sound : (k : ℕ) (ws : Line) (n : ℕ) → label_in k ws ≡ Some n → label_line k ≡ ws
unfolding label_in
label-sound k ws n h =
    let w = bind_some (only_of ws) _ n h in
    let d = bind_some (behind (codes "bb") w.0) _ n w.2 in
    let m = bind_some (number_in (2 ^ 64 - 1) d.0) _ n d.2 in
    let c = cond_some (eqb m.0 k) m.0 n m.2 in
    let x = (number-reads (2 ^ 64 - 1) (omega arith)).sound d.0 m.0 m.1 in
    let same : decimal k ≡ d.0 = ap decimal (sym (eqb-true m.0 k c.0)) ∙ x.1 in
    ap (λ w. w ∷ []) (ap (λ t. codes "bb" ++ t) same ∙ behind-sound (codes "bb") w.0 d.0 d.1) ∙ only-is ws w.0 w.1

pub label-again : (k : ℕ) → k < 2 ^ 64 → label_in k (label_line k) ≡ Some k
unfolding label_in
label-again k fits = rw ((number-reads (2 ^ 64 - 1) (omega arith)).again k (omega (arith, fits)), eqb-self k) refl
