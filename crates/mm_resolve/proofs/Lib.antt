mod DoubleItems
mod DoubleLemmas
mod FirstLemmas
mod TableLemmas
