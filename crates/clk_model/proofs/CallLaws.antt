-- Laws on a driver's own entries in a journal that gets more.
use Rattle.std.proofs.Common.{◌≡◌, ℕ, ◌==◌, List, ◌++◌}
use Rattle.std.proofs.lemmas.List.Elements.{filter-append}
use Rattle.clk_base.specs.declared.event.Entry.{Entry}
use Rattle.clk_model.specs.Journal.{own}

-- the own entries of a journal, and of entries behind it
pub own-append : (journal more : List Entry) (d : ℕ) → own (journal ++ more) d ≡ own journal d ++ own more d
own-append journal more d = filter-append (λ e. e.driver == d) journal more
