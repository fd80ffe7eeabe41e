-- The clock is one of those that are there.
use Rattle.std.proofs.Common.{◌≡◌, ℕ, zero, suc, ◌<◌, true, List, [], ◌∷◌, sym, ◌∙◌, arith, length, get_or}
use Rattle.clk_model.specs.declared.row.ClockRow.{ClockRow}
use Rattle.clk_model.specs.State.{registered}
use Rattle.clk_model.proofs.StateLaws.{registered_lt}
use Rattle.clk_tree.specs.declared.walk_rates.WalkRate.{WalkRate}
use Rattle.clk_tree.specs.Plans.{AreThere, rates_of}
use Rattle.clk_tree.proofs.walk_rates.rate_at.Goals as goal

-- the clock at a place of a walk is registered
there_at : (clocks : List ClockRow) (rates : List WalkRate) (k : ℕ) (d : WalkRate) → k < length rates → AreThere clocks (rates_of rates) → registered clocks (get_or rates k d).clock.0 ≡ true
there_at clocks [] k d less there = absurd (omega arith)
there_at clocks (r ∷ rates) zero d less there = there.0
there_at clocks (r ∷ rates) (suc k) d less there = there_at clocks rates k d (omega arith) there.1

-- a registered clock is one of the description
registered_inside : (clocks : List ClockRow) (n c : ℕ) → length clocks ≡ n → registered clocks c ≡ true → c < n
registered_inside clocks n c rows on = let less = registered_lt clocks c on in omega arith

pub returns-clause-there : goal.returns-clause-there
returns-clause-there c = there_at c.args.tree.now.clocks c.args.rates.now c.args.place _ c.requires.place c.requires.there

pub returns-clause-inside : goal.returns-clause-inside
returns-clause-inside c =
    registered_inside c.args.tree.now.clocks (length c.args.tree.now.defs) _ c.registered-there.ensures.stands.rows (there_at c.args.tree.now.clocks c.args.rates.now c.args.place _ c.requires.place c.requires.there)

pub returns-clause-rated : goal.returns-clause-rated
returns-clause-rated c =
    registered_inside c.args.tree.now.clocks (length c.args.tree.now.rates) _ (c.registered-there.ensures.stands.rows ∙ sym c.registered-there.ensures.stands.rated)
    (there_at c.args.tree.now.clocks c.args.rates.now c.args.place _ c.requires.place c.requires.there)
