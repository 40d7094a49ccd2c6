-- What each tree has that is read from a text within the limit: there is a crate, names are names, heads take the children
-- that they have, and no list and no type is too long to be counted in 32 bits. It is said of all forms of the language.
use Rattle.std.specs.Prelude.{◌&&◌, Bool}
use Rattle.mm_ast.specs.declared.items.Ast.{Ast}
use Rattle.mm_ast.specs.declared.items.Crate.{Crate}
use Rattle.mm_written.specs.Items.{written_item}
use Rattle.mm_written.specs.Lists.{some, few_each}
use Rattle.mm_written.specs.Names.{written_name}

unfoldable pub written_crate : Crate → Bool
written_crate krate = written_name krate.name && few_each written_item krate.items

-- a text has a crate at least
unfoldable pub is_written : Ast → Bool
is_written tree = some tree.crates && few_each written_crate tree.crates
