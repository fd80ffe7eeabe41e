-- Laws on what the steps of a script make of a tree, without anything else.
use Rattle.std.proofs.Common.{◌≡◌, ℕ, ◌^◌, ◌<◌, ◌≤◌, Bool, true, false, List, [], ◌∷◌, ◌++◌, Option, Some, None, refl, sym, ap, subst, ◌∙◌, ◌⊎◌, inl, inr, arith, length, nat_lt}
use mathlib.Core.Path.{fun_ext}
use Rattle.std.specs.Prelude.{option_map, find, ◌==◌}
use Rattle.std.specs.List.{list_all}
use Rattle.std.specs.Option.{option_map_or}
use Rattle.std.proofs.lemmas.Bool.{cases_lt}
use Rattle.std.proofs.lemmas.Bool.Decides.{nat_tests}
use Rattle.std.proofs.lemmas.List.{set_past}
use Rattle.clk_base.specs.declared.call.Micro.{Micro}
use Rattle.clk_base.specs.declared.call.Micro.TheVariants as micro
use Rattle.clk_base.specs.Description.{Description, kind_of}
use Rattle.clk_base.specs.Fields.{Field, field_of}
use Rattle.clk_base.specs.Valid.{IsValid}
use Rattle.reg_bank.specs.Registers.{Registers, put}
use Rattle.clk_model.specs.declared.row.ClockRow.{ClockRow}
use Rattle.clk_model.specs.Kinds.{mux_field}
use Rattle.clk_model.specs.State.{ChainStep, link_in}
use Rattle.clk_model.specs.Rate.{rate}
use Rattle.clk_model.specs.Round.{Wiring, rate_in, parent_rate_in}
use Rattle.clk_model.specs.Chain.{linked, setting}
use Rattle.clk_model.specs.Laws.Outcomes.{SameSettings}
use Rattle.clk_model.proofs.Members.{both_left, both_right}
use Rattle.clk_model.proofs.OutcomeLaws.{length-slice_set}
use Rattle.clk_model.proofs.RateLaws.{rate-links}
use Rattle.clk_model.proofs.SameSettingLaws.{SameFields, rates_same, put_same, setting_of}
use Rattle.clk_model.proofs.ApartLaws.{mux_is_field}
use Rattle.clk_model.proofs.WholePathLaws.{linked_same, linked_other, same_or_not}

-- ---- steps on a tree

-- the rate that a chain plans for a clock
abbrev pub planned_in : List ChainStep → ℕ → Option ℕ
planned_in ks c = option_map (λ step. step.rate) (find (λ step. step.clock == c) ks)

-- what a step makes of a tree, where ks is the planned chain: a new link, a field of a mux, or the setting of a clock of the chain
abbrev pub act : List ChainStep → Micro → Wiring → Wiring
act ks (micro.Relink c p) w = record w { clocks = linked w.clocks c.0 p.0 }
act ks (micro.WriteMux c place) w = record w { regs = option_map_or (λ f. put w.regs f.word f.shift f.width place) (mux_field (kind_of w.defs c.0)) w.regs }
act ks (micro.Visit c) w = record w { regs = option_map_or (λ planned. setting (kind_of w.defs c.0) (parent_rate_in w c.0) planned w.regs) (planned_in ks c.0) w.regs }
act ks _ w = w

-- and what steps make of it, one after the other
abbrev pub acted : List ChainStep → List Micro → Wiring → Wiring
acted ks [] w = w
acted ks (m ∷ ms) w = acted ks ms (act ks m w)

pub acted_append : (ks : List ChainStep) (xs ys : List Micro) (w : Wiring) → acted ks (xs ++ ys) w ≡ acted ks ys (acted ks xs w)
acted_append ks [] ys w = refl
acted_append ks (x ∷ xs) ys w = acted_append ks xs ys (act ks x w)

-- whether a step leaves trees
abbrev pub leaves_tree : Micro → Bool
leaves_tree (micro.Relink c p) = false
leaves_tree (micro.WriteMux c place) = false
leaves_tree (micro.Visit c) = false
leaves_tree _ = true

pub left_tree : (ks : List ChainStep) (m : Micro) (w : Wiring) → leaves_tree m ≡ true → act ks m w ≡ w
left_tree ks (micro.Relink c p) w e = absurd cc
left_tree ks (micro.WriteMux c place) w e = absurd cc
left_tree ks (micro.Visit c) w e = absurd cc
left_tree ks _ w e = refl

pub all_leave : (ks : List ChainStep) (ms : List Micro) (w : Wiring) → list_all leaves_tree ms ≡ true → acted ks ms w ≡ w
all_leave ks [] w e = refl
all_leave ks (m ∷ ms) w e =
    ap (λ (v : Wiring). acted ks ms v) (left_tree ks m w (both_left (leaves_tree m) (list_all leaves_tree ms) e)) ∙ all_leave ks ms w (both_right (leaves_tree m) (list_all leaves_tree ms) e)

-- ---- trees with the same settings

pub same_settings : (w : Wiring) → SameSettings w w
same_settings w = record { defs = refl; rows = refl; words = refl; links = λ c. refl; fields = λ c f at. refl }

pub settings_through : (u v w : Wiring) → SameSettings u v → SameSettings v w → SameSettings u w
settings_through u v w first second = record {
  defs = first.defs ∙ second.defs;
  rows = first.rows ∙ second.rows;
  words = first.words ∙ second.words;
  links = λ c. first.links c ∙ second.links c;
  fields = λ c f at. first.fields c f (ap (λ (ds : Description). field_of (kind_of ds c)) second.defs ∙ at) ∙ second.fields c f at;
}

-- the fields of such trees are the same, and so are their rates
abbrev pub fields_of_same : (v w : Wiring) → SameSettings v w → SameFields w.defs w.regs v.regs
fields_of_same v w same = record { words = same.words; fields = same.fields }

rates_of_same : (v w : Wiring) → SameSettings v w → rate_in v ≡ rate_in w
rates_of_same v w same =
    ap (λ (defs : Description). rate defs v.regs v.clocks) same.defs
    ∙ fun_ext (λ d. rate-links w.defs v.regs w.clocks v.clocks d same.links)
    ∙ rates_same w.defs w.clocks w.regs v.regs (fields_of_same v w same)

parent_rates : (v w : Wiring) (c : ℕ) → SameSettings v w → parent_rate_in v c ≡ parent_rate_in w c
parent_rates v w c same =
    ap (λ (o : Option ℕ). option_map_or (rate_in v) o 0) (same.links c) ∙ ap (λ (rates : ℕ → ℕ). option_map_or rates (link_in w.clocks c) 0) (rates_of_same v w same)

-- ---- steps keep them the same

linked_past : (clocks : List ClockRow) (c p : ℕ) → length clocks ≤ c → linked clocks c p ≡ clocks
linked_past clocks c p past = set_past clocks c _ past

links_same : (old new : List ClockRow) (c p : ℕ) → length new ≡ length old → ((d : ℕ) → link_in new d ≡ link_in old d) → (d : ℕ) → link_in (linked new c p) d ≡ link_in (linked old c p) d
links_same old new c p rows same d = by (same_or_not c d) (cases_lt c (length old)) where
  by : (c ≡ d) ⊎ (c ≡ d → ⊥) → (c < length old) ⊎ (length old ≤ c) → link_in (linked new c p) d ≡ link_in (linked old c p) d
  by (inr other) within = linked_other new c p d other ∙ same d ∙ sym (linked_other old c p d other)
  by (inl is) (inl within) =
      subst (λ (x : ℕ). link_in (linked new c p) x ≡ link_in (linked old c p) x) is (linked_same new c p (omega arith) ∙ sym (linked_same old c p within))
  by (inl is) (inr past) =
      ap (λ (rows : List ClockRow). link_in rows d) (linked_past new c p (omega arith)) ∙ same d ∙ ap (λ (rows : List ClockRow). link_in rows d) (sym (linked_past old c p past))

-- whether a step can be one of a plan: it neither registers nor sweeps, and what it writes in the field of a mux fits it
abbrev pub writes_fit : Description → Micro → Bool
writes_fit defs (micro.WriteMux c place) = option_map_or (λ f. nat_lt place (2 ^ f.width)) (mux_field (kind_of defs c.0)) true
writes_fit defs (micro.Register c) = false
writes_fit defs (micro.Close c) = false
writes_fit defs (micro.Unpower c) = false
writes_fit defs _ = true

written_same : (words : ℕ) (w : Wiring) (new : Registers) (c place : ℕ) → IsValid words w.defs → SameFields w.defs w.regs new → option_map_or (λ f. nat_lt place (2 ^ f.width)) (mux_field (kind_of w.defs c)) true ≡ true
    → SameFields w.defs (option_map_or (λ f. put w.regs f.word f.shift f.width place) (mux_field (kind_of w.defs c)) w.regs) (option_map_or (λ f. put new f.word f.shift f.width place) (mux_field (kind_of w.defs c)) new)
written_same words w new c place valid same fits = by (mux_field (kind_of w.defs c)) refl fits where
  by : (o : Option Field) → mux_field (kind_of w.defs c) ≡ o → option_map_or (λ f. nat_lt place (2 ^ f.width)) o true ≡ true
      → SameFields w.defs (option_map_or (λ f. put w.regs f.word f.shift f.width place) o w.regs) (option_map_or (λ f. put new f.word f.shift f.width place) o new)
  by None at fit = same
  by (Some f) at fit = put_same words w.defs w.regs new c f place valid (mux_is_field (kind_of w.defs c) f at) (grind (arith, nat_tests)) same

act_over : (words : ℕ) (ks : List ChainStep) (m : Micro) (w : Wiring) (clocks : List ClockRow) (new : Registers) → IsValid words w.defs → writes_fit w.defs m ≡ true
    → SameSettings (record w { clocks = clocks; regs = new }) w → SameSettings (act ks m (record w { clocks = clocks; regs = new })) (act ks m w)
act_over words ks (micro.Relink c p) w clocks new valid fits same = record {
  defs = refl;
  rows = length-slice_set clocks c.0 _ ∙ same.rows ∙ sym (length-slice_set w.clocks c.0 _);
  words = same.words;
  links = links_same w.clocks clocks c.0 p.0 same.rows same.links;
  fields = same.fields;
}
act_over words ks (micro.WriteMux c place) w clocks new valid fits same =
    let fields = written_same words w new c.0 place valid (record { words = same.words; fields = same.fields }) fits in
    record { defs = refl; rows = same.rows; words = fields.words; links = same.links; fields = fields.fields }
act_over words ks (micro.Visit c) w clocks new valid fits same = by (planned_in ks c.0) where
  v : Wiring
  v = record w { clocks = clocks; regs = new }

  by : (o : Option ℕ) → SameSettings (record v { regs = option_map_or (λ planned. setting (kind_of w.defs c.0) (parent_rate_in v c.0) planned new) o new })
      (record w { regs = option_map_or (λ planned. setting (kind_of w.defs c.0) (parent_rate_in w c.0) planned w.regs) o w.regs })
  by None = same
  by (Some planned) =
      let fields = subst (λ (parent : ℕ). SameFields w.defs (setting (kind_of w.defs c.0) (parent_rate_in w c.0) planned w.regs) (setting (kind_of w.defs c.0) parent planned new)) (sym (parent_rates v w c.0 same))
      (setting_of words w.defs w.regs new c.0 (parent_rate_in w c.0) planned (kind_of w.defs c.0) valid refl (record { words = same.words; fields = same.fields })) in
      record { defs = refl; rows = same.rows; words = fields.words; links = same.links; fields = fields.fields }
act_over words ks (micro.Notify kind c id old new_) w clocks new valid fits same = same
act_over words ks (micro.Raise x) w clocks new valid fits same = same
act_over words ks (micro.Poll x) w clocks new valid fits same = same
act_over words ks (micro.Fall x) w clocks new valid fits same = same
act_over words ks (micro.HoldPrepare x) w clocks new valid fits same = same
act_over words ks (micro.HoldEnable x) w clocks new valid fits same = same
act_over words ks (micro.DropEnable x) w clocks new valid fits same = same
act_over words ks (micro.DropPrepare x) w clocks new valid fits same = same
act_over words ks (micro.Lower x) w clocks new valid fits same = same
act_over words ks (micro.Register x) w clocks new valid fits same = same
act_over words ks (micro.Settle x) w clocks new valid fits same = same
act_over words ks (micro.Close x) w clocks new valid fits same = same
act_over words ks (micro.Unpower x) w clocks new valid fits same = same
act_over words ks micro.End w clocks new valid fits same = same

-- a step that fits leaves trees the same
pub act_same : (words : ℕ) (ks : List ChainStep) (m : Micro) (v w : Wiring) → IsValid words w.defs → writes_fit w.defs m ≡ true → SameSettings v w → SameSettings (act ks m v) (act ks m w)
act_same words ks m v w valid fits same =
    subst (λ (defs : Description). SameSettings (act ks m (record v { defs = defs })) (act ks m w)) (sym same.defs)
    (act_over words ks m w v.clocks v.regs valid fits (record { defs = refl; rows = same.rows; words = same.words; links = same.links; fields = same.fields }))

act_defs : (ks : List ChainStep) (m : Micro) (w : Wiring) → (act ks m w).defs ≡ w.defs
act_defs ks (micro.Relink c p) w = refl
act_defs ks (micro.WriteMux c place) w = refl
act_defs ks (micro.Visit c) w = refl
act_defs ks _ w = refl

-- and so do steps that fit
pub acted_same : (words : ℕ) (ks : List ChainStep) (ms : List Micro) (v w : Wiring) → IsValid words w.defs → list_all (writes_fit w.defs) ms ≡ true → SameSettings v w → SameSettings (acted ks ms v) (acted ks ms w)
acted_same words ks [] v w valid fit same = same
acted_same words ks (m ∷ ms) v w valid fit same =
    acted_same words ks ms (act ks m v) (act ks m w) (subst (IsValid words) (sym (act_defs ks m w)) valid)
    (subst (λ (defs : Description). list_all (writes_fit defs) ms ≡ true) (sym (act_defs ks m w)) (both_right (writes_fit w.defs m) (list_all (writes_fit w.defs) ms) fit))
    (act_same words ks m v w valid (both_left (writes_fit w.defs m) (list_all (writes_fit w.defs) ms) fit) same)

pub settings_back : (v w : Wiring) → SameSettings v w → SameSettings w v
settings_back v w same = record {
  defs = sym same.defs;
  rows = sym same.rows;
  words = sym same.words;
  links = λ c. sym (same.links c);
  fields = λ c f at. sym (same.fields c f (ap (λ (ds : Description). field_of (kind_of ds c)) (sym same.defs) ∙ at));
}
