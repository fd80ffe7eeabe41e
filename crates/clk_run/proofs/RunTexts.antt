-- The text of a run: driver after driver.
use Rattle.std.proofs.Common.{◌≡◌, ℕ, ◌+◌, ◌<◌, List, [], ◌∷◌, ◌++◌, sym, ap, ◌∙◌, arith, length, map, drop, get_or}
use Rattle.std.proofs.lemmas.List.{drop_more}
use Rattle.clk_base.specs.Description.{Description}
use Rattle.clk_base.specs.declared.command.Answer.{Answer}
use Rattle.clk_model.specs.Text.{answers_text, all_answers_text}
use Rattle.drv_scripts.specs.declared.bundle.Script.{Script}

-- the answers of the drivers from a place on are those of the driver there, and the rest
pub texts_at : (defs : Description) (drivers : List Script) (answers : List (List Answer)) (i : ℕ) (s : Script) (own : List Answer) → i < length drivers → i < length answers
    → s ≡ get_or drivers i s → own ≡ get_or answers i own
    → all_answers_text defs (map (λ x. x.name) (drop i drivers)) (drop i answers) ≡ answers_text defs s.name own ++ all_answers_text defs (map (λ x. x.name) (drop (i + 1) drivers)) (drop (i + 1) answers)
texts_at defs drivers answers i s own in_drivers in_answers is mine =
    ap (λ (xs : List Script). all_answers_text defs (map (λ x. x.name) xs) (drop i answers)) (drop_more drivers i s in_drivers)
    ∙ ap (λ (ys : List (List Answer)). all_answers_text defs (map (λ x. x.name) (get_or drivers i s ∷ drop (i + 1) drivers)) ys) (drop_more answers i own in_answers)
    ∙ ap (λ (x : Script). answers_text defs x.name (get_or answers i own) ++ all_answers_text defs (map (λ x. x.name) (drop (i + 1) drivers)) (drop (i + 1) answers)) (sym is)
    ∙ ap (λ (x : List Answer). answers_text defs s.name x ++ all_answers_text defs (map (λ x. x.name) (drop (i + 1) drivers)) (drop (i + 1) answers)) (sym mine)

-- the answers of boot come first
pub boot_first : (defs : Description) (name : List ℕ) (names : List (List ℕ)) (answers : List (List Answer)) (own : List Answer) → 0 < length answers → own ≡ get_or answers 0 own
    → all_answers_text defs (name ∷ names) answers ≡ answers_text defs name own ++ all_answers_text defs names (drop 1 answers)
boot_first defs name names [] own some is = absurd (omega arith)
boot_first defs name names (a ∷ answers) own some is = ap (λ (x : List Answer). answers_text defs name x ++ all_answers_text defs names answers) (sym is)
