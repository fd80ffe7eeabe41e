-- The generated text is the one that its rows make.
use Rattle.std.proofs.Common.{◌≡◌, ℕ, zero, suc, List, [], ◌∷◌, ◌++◌, map, refl, sym, ap, ◌∙◌, append_assoc}
use Rattle.std.specs.Prelude.{codes}
use Rattle.std.proofs.lemmas.List.{map-append}
use Rattle.clk_base.specs.declared.command.Act.TheVariants.{Put, Prepare, Unprepare}
use Rattle.clk_gen.specs.Generated.{texts_up_to, pll_line, divider_line, gate_line, clock_lines, register_line, turn_lines, turns_lines, head_lines, driver_lines, words_line, generated}
use Rattle.gen_laws.specs.Rows.{rows_text}
use Rattle.gen_laws.specs.Clocks.{root, pll, divider, gate, up_to, parts_of}
use Rattle.gen_laws.specs.Script.{turn_acts, turns_acts, acts_held}
use Rattle.gen_laws.proofs.RowLines.{text-append}
use Rattle.gen_laws.proofs.BundleRows.{Row, part_row, word_row, driver_row, get_row, act_row, driver_rows, bank_row, word_rows, bundle_rows}

-- what is made of each element of lists one behind the other
pub map-up_to : {X Y : Type 0} (f : X → Y) (list : ℕ → List X) (n : ℕ) → map f (up_to list n) ≡ up_to (λ k. map f (list k)) n
map-up_to f list zero = refl
map-up_to f list (suc n) = map-append f (up_to list n) (list (suc n)) ∙ ap (λ xs. xs ++ map f (list (suc n))) (map-up_to f list n)

-- the text of rows one behind the other
text-up_to : (rows : ℕ → List Row) (text : ℕ → List ℕ) → ((k : ℕ) → rows_text (rows k) ≡ text k) → (n : ℕ) → rows_text (up_to rows n) ≡ texts_up_to text n
text-up_to rows text same zero = refl
text-up_to rows text same (suc n) =
    text-append (up_to rows n) (rows (suc n))
    ∙ (ap (λ t. t ++ rows_text (rows (suc n))) (text-up_to rows text same n) ∙ ap (λ t. texts_up_to text n ++ t) (same (suc n)))

-- the clocks of a driver
clocks-text : (k : ℕ) → rows_text (map part_row (parts_of k)) ≡ clock_lines k
clocks-text k =
    let two : rows_text (part_row (pll k) ∷ part_row (divider k) ∷ []) ≡ pll_line k ++ divider_line k = text-append (part_row (pll k) ∷ []) (part_row (divider k) ∷ []) in
    text-append (part_row (pll k) ∷ part_row (divider k) ∷ []) (part_row (gate k) ∷ []) ∙ ap (λ t. t ++ gate_line k) two

-- a turn
turn-text : (turn : ℕ) → rows_text (map act_row (turn_acts turn)) ≡ turn_lines turn
turn-text turn = refl

turns-text : rows_text (map act_row turns_acts) ≡ turns_lines
unfolding turns_acts turns_lines
turns-text = ap rows_text (map-up_to act_row turn_acts 100) ∙ text-up_to (λ t. map act_row (turn_acts t)) turn_lines turn-text 100

-- a driver
driver-text : (k : ℕ) → rows_text (driver_rows k) ≡ driver_lines k
unfolding acts_held
driver-text k =
    let head : rows_text (driver_row k ∷ get_row k ∷ act_row Prepare ∷ []) ≡ head_lines k = refl in
    let last : rows_text (map act_row (Unprepare ∷ Put ∷ [])) ≡ codes "unprepare x\nput x\n" = refl in
    let rest : rows_text (map act_row (turns_acts ++ (Unprepare ∷ Put ∷ []))) ≡ turns_lines ++ codes "unprepare x\nput x\n" =
    ap rows_text (map-append act_row turns_acts (Unprepare ∷ Put ∷ []))
    ∙ (text-append (map act_row turns_acts) (map act_row (Unprepare ∷ Put ∷ [])) ∙ ap (λ t. t ++ codes "unprepare x\nput x\n") turns-text) in
    text-append (driver_row k ∷ get_row k ∷ act_row Prepare ∷ []) (map act_row (turns_acts ++ (Unprepare ∷ Put ∷ [])))
    ∙ (ap (λ t. head_lines k ++ t) rest ∙ sym (append_assoc (head_lines k) turns_lines (codes "unprepare x\nput x\n")))

-- the whole text
pub bundle-text : (n : ℕ) → rows_text (bundle_rows n) ≡ generated n
unfolding generated
bundle-text n =
    let head = (codes "%bundle" ∷ codes "1" ∷ []) ∷ (codes "%clocks" ∷ []) ∷ part_row root ∷ [] in
    let clocks : rows_text (map part_row (up_to parts_of n)) ≡ texts_up_to clock_lines n =
    ap rows_text (map-up_to part_row parts_of n) ∙ text-up_to (λ k. map part_row (parts_of k)) clock_lines clocks-text n in
    let words : rows_text (word_rows n) ≡ texts_up_to register_line n = text-up_to (λ k. word_row k ∷ []) register_line (λ k. refl) n in
    let drivers : rows_text (up_to driver_rows n) ≡ texts_up_to driver_lines n = text-up_to driver_rows driver_lines driver-text n in
    text-append head (map part_row (up_to parts_of n) ++ (bank_row n ∷ (word_rows n ++ up_to driver_rows n)))
    ∙ (ap (λ t. rows_text head ++ t)
    (text-append (map part_row (up_to parts_of n)) (bank_row n ∷ (word_rows n ++ up_to driver_rows n))
    ∙ (ap (λ t. t ++ rows_text (bank_row n ∷ (word_rows n ++ up_to driver_rows n))) clocks
    ∙ ap (λ t. texts_up_to clock_lines n ++ t)
    (text-append (bank_row n ∷ []) (word_rows n ++ up_to driver_rows n)
    ∙ ap (λ t. words_line n ++ t) (text-append (word_rows n) (up_to driver_rows n) ∙ (ap (λ t. t ++ rows_text (up_to driver_rows n)) words ∙ ap (λ t. texts_up_to register_line n ++ t) drivers)))))
    ∙ simp append_assoc)
