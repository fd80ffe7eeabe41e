-- Texts that are gathered one after another, and where they end.
use Rattle.std.proofs.Common.{◌≡◌, ℕ, List, [], ◌++◌, Option, Result, Ok, Err, refl, sym, ap, subst, ◌∙◌, append_assoc, append-nil, codes}
use Rattle.std.specs.Prelude.{flat_map}
use Rattle.std.specs.Result.{IsErr}
use Rattle.clk_base.specs.Levels.{depth}
use Rattle.clk_io.specs.Streams.{AppendsFront}
use Rattle.clk_io.specs.Gathers.{PassesOn, Gathers}
use Rattle.clk_model.specs.State.{State}
use Rattle.clk_model.specs.Summary.{header, lines_within, summary}
use Rattle.clk_summary.specs.Rows.{tops}

-- a front of the text is what a fault may leave of it
pub fault_leaves : {T E : Type 0} (a b : Option (List ℕ)) (before after text : List ℕ) (r : Result T E) → IsErr r → AppendsFront a b (before ++ text) → Gathers a b before after text r
fault_leaves a b before after text (Ok x) i h = absurd (cc)
fault_leaves a b before after text (Err e) i h = h

-- one text more is done
pub one_done : (whole done rest text behind : List ℕ) → whole ≡ done ++ rest → rest ≡ text ++ behind → whole ≡ (done ++ text) ++ behind
one_done whole done rest text behind e at = e ∙ ap (λ r. done ++ r) at ∙ sym (append_assoc done text behind)

-- where nothing is left, all is done
pub all_done : (a b : Option (List ℕ)) (before after whole done rest : List ℕ) → PassesOn a b before after done → whole ≡ done ++ rest → rest ≡ [] → PassesOn a b before after whole
all_done a b before after whole done rest passed e none =
    subst (PassesOn a b before after) (sym (e ∙ ap (λ r. done ++ r) none ∙ append-nil done)) passed

-- what stands in each column
pub header_is : codes "clock                             enable prepare protect                 rate   hw\n" ≡ header
header_is = refl

-- the summary is the header and the trees of the roots and orphans
pub summary_is : (s : State) → summary s ≡ header ++ flat_map (lines_within depth s 0) (tops s)
unfolding summary
summary_is s = refl
