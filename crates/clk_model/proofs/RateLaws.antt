-- Laws on rates: a rate depends on the links of the clocks on its path and on the fields by which they divide and multiply, and on nothing else.
use Rattle.std.proofs.Common.{◌≤◌, sym, arith, false, ◌≡◌, ℕ, zero, suc, true, List, Option, Some, None, refl, ap, ◌∙◌}
use Rattle.std.specs.Option.{option_map_or}
use Rattle.clk_base.specs.declared.clock.Kind.{Kind}
use Rattle.clk_base.specs.declared.clock.Kind.TheVariants.{FixedRate, Factor, Gate, Mux, Divider, Pll}
use Rattle.clk_base.specs.Description.{Description, kind_of, parents_of}
use Rattle.clk_base.specs.Fields.{Field}
use Rattle.clk_base.specs.Levels.{depth, ends_within}
use Rattle.clk_base.proofs.Lines.{ends_within-parent}
use Rattle.kind_math.specs.Rates.{div_rate, pll_rate}
use Rattle.reg_bank.specs.Registers.{Registers, field}
use Rattle.clk_model.specs.declared.row.ClockRow.{ClockRow}
use Rattle.clk_model.specs.Lists.{is_in}
use Rattle.clk_model.specs.State.{State, link_in}
use Rattle.clk_model.specs.Tree.{path_within, path}
use Rattle.clk_model.specs.Rate.{style_of, rate_over, rate_within, rate}
use Rattle.clk_model.specs.Chain.{linked}
use Rattle.clk_model.specs.Begin.{registered_rows, register}
use Rattle.clk_model.specs.Laws.Paths.{RegistersLeaveOthers, RatesAreOverLinks, scales_by, RelinksLeaveRates, WritesLeaveRates}
use Rattle.clk_model.proofs.Members.{is_in_head, is_in_tail}
use Rattle.clk_model.proofs.PathLaws.{above}
use Rattle.clk_model.proofs.WholePathLaws.{given_others, registers_leave_paths, linked_other, other_member}
use Rattle.clk_model.specs.Wired.{LinksArePossible}

-- the rate over a parent's depends on the field by which a clock divides or multiplies
pub over_same : (kind : Kind) (old new : Registers) → ((f : Field) → scales_by kind ≡ Some f → field new f.word f.shift f.width ≡ field old f.word f.shift f.width)
    → (x : ℕ) → rate_over kind new x ≡ rate_over kind old x
over_same (FixedRate rate) old new same x = refl
over_same (Factor mult div) old new same x = refl
over_same (Gate word bit set_to_disable) old new same x = refl
over_same (Mux word shift width read_only) old new same x = refl
over_same (Divider word shift width one_based power_of_two) old new same x =
    ap (λ (n : ℕ). div_rate x n (style_of one_based power_of_two)) (same (record { word = word; shift = shift; width = width }) refl)
over_same (Pll word shift width power_word power_bit least most m) old new same x =
    ap (λ (n : ℕ). pll_rate x n m) (same (record { word = word; shift = shift; width = width }) refl)

-- a clock has the same link, and the same rate over each rate of a parent
pub record IsAlike (defs : Description) (old new : Registers) (before after : List ClockRow) (a : ℕ) : Type 0 where
  pub link : link_in after a ≡ link_in before a
  pub over : (x : ℕ) → rate_over (kind_of defs a) new x ≡ rate_over (kind_of defs a) old x

rate_above : (f g : ℕ → ℕ) (o : Option ℕ) → ((p : ℕ) → o ≡ Some p → f p ≡ g p) → option_map_or f o 0 ≡ option_map_or g o 0
rate_above f g None same = refl
rate_above f g (Some p) same = same p refl

-- where the clocks on a path are alike, the rate is the same
pub rate_agree : (defs : Description) (old new : Registers) (before after : List ClockRow) (n d : ℕ)
    → ((a : ℕ) → is_in a (path_within (link_in before) n d) ≡ true → IsAlike defs old new before after a)
    → rate_within defs new after n d ≡ rate_within defs old before n d
rate_agree defs old new before after zero d alike = refl
rate_agree defs old new before after (suc n) d alike =
    let here = alike d (is_in_head d (above (link_in before) n (link_in before d))) in
    ap (λ (o : Option ℕ). rate_over (kind_of defs d) new (option_map_or (rate_within defs new after n) o 0)) here.link
    ∙ here.over (option_map_or (rate_within defs new after n) (link_in before d) 0)
    ∙ ap (λ (x : ℕ). rate_over (kind_of defs d) old x)
    (rate_above (rate_within defs new after n) (rate_within defs old before n) (link_in before d)
    (λ p e. rate_agree defs old new before after n p
    (λ a m. alike a (is_in_tail a d (above (link_in before) n (link_in before d)) (ap (λ (o : Option ℕ). is_in a (above (link_in before) n o)) e ∙ m)))))

-- where all links are the same, so is the rate
pub rate-links : (defs : Description) (regs : Registers) (before after : List ClockRow) (d : ℕ) → ((a : ℕ) → link_in after a ≡ link_in before a)
    → rate defs regs after d ≡ rate defs regs before d
unfolding rate
rate-links defs regs before after d same = rate_agree defs regs regs before after depth d (λ a m. record { link = same a; over = λ x. refl })

-- where all links but that of a clock that isn't on the path are the same, the rate is the same
pub rate_leaves : (defs : Description) (regs : Registers) (before after : List ClockRow) (c d : ℕ) → ((a : ℕ) → (c ≡ a → ⊥) → link_in after a ≡ link_in before a)
    → is_in c (path before d) ≡ false → rate defs regs after d ≡ rate defs regs before d
unfolding rate
rate_leaves defs regs before after c d same out =
    rate_agree defs regs regs before after depth d (λ a m. record { link = same a (other_member c a (path before d) out m); over = λ x. refl })

-- a new link of a clock that isn't on the path leaves the rate
pub relinks_leave_rates : RelinksLeaveRates
relinks_leave_rates defs regs clocks c p d out = rate_leaves defs regs clocks (linked clocks c p) c d (linked_other clocks c p) out

registers_leave_rates : (s : State) (c d : ℕ) → is_in c (path s.clocks d) ≡ false → rate s.defs s.regs (register s c).clocks d ≡ rate s.defs s.regs s.clocks d
unfolding register
registers_leave_rates s c d out = rate_leaves s.defs s.regs s.clocks (registered_rows s.defs s.regs s.clocks c) c d (given_others s c) out

-- and so does its registration, which leaves the path
pub registers_leave_others : RegistersLeaveOthers
registers_leave_others s c d out = (registers_leave_paths s c d out, registers_leave_rates s c d out)

-- where the clocks on the path divide and multiply by the same, the rate is the same
pub writes_leave_rates : WritesLeaveRates
unfolding rate
writes_leave_rates defs old new clocks d same =
    rate_agree defs old new clocks clocks depth d (λ a m. record { link = refl; over = over_same (kind_of defs a) old new (same a m) })

-- ---- over links

-- where lines of possible parents end within some levels, more levels give the same rate
rate_more : (defs : Description) (regs : Registers) (clocks : List ClockRow) (n m c : ℕ) → LinksArePossible defs clocks → ends_within (parents_of defs) n c ≡ true → n ≤ m
    → rate_within defs regs clocks m c ≡ rate_within defs regs clocks n c
rate_more defs regs clocks zero m c links ends le = absurd cc
rate_more defs regs clocks (suc n) zero c links ends le = absurd (omega arith)
rate_more defs regs clocks (suc n) (suc m) c links ends le =
    ap (λ (x : ℕ). rate_over (kind_of defs c) regs x)
    (rate_above (rate_within defs regs clocks m) (rate_within defs regs clocks n) (link_in clocks c)
    (λ p e. rate_more defs regs clocks n m p links (ends_within-parent (parents_of defs) n c p ends (links c p e)) (omega arith)))

rate_up : (defs : Description) (regs : Registers) (clocks : List ClockRow) (n c : ℕ) → LinksArePossible defs clocks → ends_within (parents_of defs) n c ≡ true
    → rate_within defs regs clocks n c ≡ rate_over (kind_of defs c) regs (option_map_or (rate_within defs regs clocks n) (link_in clocks c) 0)
rate_up defs regs clocks zero c links ends = absurd cc
rate_up defs regs clocks (suc n) c links ends =
    ap (λ (x : ℕ). rate_over (kind_of defs c) regs x)
    (rate_above (rate_within defs regs clocks n) (rate_within defs regs clocks (suc n)) (link_in clocks c)
    (λ p e. sym (rate_more defs regs clocks n (suc n) p links (ends_within-parent (parents_of defs) n c p ends (links c p e)) (omega arith))))

-- a rate is that of its kind over the rate of its link
pub rates_are_over_links : RatesAreOverLinks
unfolding rate
rates_are_over_links defs regs clocks ends links c = rate_up defs regs clocks depth c links (ends c)
