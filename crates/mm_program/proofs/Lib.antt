mod ExampleLemmas
mod MarkLemmas
mod PartLemmas
mod TableLemmas
mod TermLemmas
