-- All locks are those of a new bank, and a place behind them counts as one.
use Rattle.std.proofs.Common.{◌≡◌, inl, inr, ap, ◌∙◌, rules, arith}
use Rattle.std.specs.Prelude.{replicate, slice_index_or}
use Rattle.std.proofs.lemmas.Bool.{cases_lt}
use Rattle.std.proofs.lemmas.List.{get_or-replicate, get_or_past, length-replicate}
use Rattle.reg_bank.specs.Locks.{unarmed}
use Rattle.reg_bank.proofs.mem_bank.MemBank.new.Goals as goal

pub returns-clause-locks : goal.returns-clause-locks
returns-clause-locks c = λ pll.
    let all : c.in_ok-locks.locks.items ≡ replicate 4096 unarmed = search rules in
    ap (λ ls. slice_index_or ls pll unarmed) all
    ∙ elim (cases_lt pll 4096) [
      | inl below ↦ get_or-replicate 4096 pll unarmed unarmed below
      | inr behind ↦ get_or_past (replicate 4096 unarmed) pll unarmed (omega (arith, length-replicate 4096 unarmed))
    ]
