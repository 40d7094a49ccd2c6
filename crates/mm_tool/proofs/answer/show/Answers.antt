use Rattle.std.proofs.Common.{IfOk, sym, subst}
use Rattle.mm_tool.specs.Report.{Shows}
use Rattle.mm_tool.proofs.answer.show.Goals as goal

pub returns-in-Listing : goal.returns-in-Listing
returns-in-Listing c = subst (λ product. IfOk c.list_items.result (λ output. Shows product c.args.p.now c.args.items.now output.items)) (sym c.in-Listing.is) c.list_items.ensures

pub returns-in-Objects : goal.returns-in-Objects
returns-in-Objects c = subst (λ product. IfOk c.build.result (λ output. Shows product c.args.p.now c.args.items.now output.items)) (sym c.in-Objects.is) c.build.ensures
