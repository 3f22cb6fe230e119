-- `search::search` meets its contract: what is found from record 0 on is what the search finds, and what the table then holds is what the caller's does.
use mathlib.Core.Path.{refl, subst}
use native.Mathlib.Omega.{arith}
use borrow.Author.Rules.{rules}
use Rattle.search.specs.Ends.{Searched}
use Rattle.search.proofs.Begins.{slots_seen, search_nowhere, search_run}
use Rattle.search.proofs.search.Goals as goal

pub returns-then-limit-eq0 : goal.returns-then-limit-eq0
returns-then-limit-eq0 c = record { searched = search_nowhere (slots_seen c.view.ensures.width c.view.ensures.bytes c.slots_of-limit.ensures.0) (omega arith) }

pub returns : goal.returns
returns c =
    let slots = slots_seen c.view.ensures.width c.view.ensures.bytes c.slots_of-limit.ensures.0 in
    let ran = rw c.store.ensures.same_width at c.run-end.ensures.ran in
    let found = search_run slots (omega arith) c.groups_of-g.ensures.grouped refl c.initial.ensures.first c.pack-v.ensures.packed c.store.ensures.stored ran in
    record { searched = rw c.progress_of.ensures (subst (Searched _ _ _ _) (search rules) found) }
