use Rattle.mm_names.proofs.WordSpellings.{word_in_is}
use Rattle.mm_grammar.proofs.pieces.word_of.Goals as goal

pub returns : goal.returns
returns c = word_in_is c.args.bytes.now c.from_bytes.result c.from_bytes.ensures.some c.from_bytes.ensures.none
