-- What the sections of a bundle give to the readers of its lines.
use Rattle.std.proofs.Common.{◌<◌, ◌≤◌, ℕ, List, length, arith}
use Rattle.std.specs.List.{AllByRecursion}
use Rattle.bundle_text.specs.Lines.{header_from}
use Rattle.bundle_sections.specs.Said.{Parts, in_order}
use Rattle.bundle_sections.specs.Verdict.{Tiles, IsSection}
use Rattle.bundle_sections.proofs.Places.{tiles-le}

-- where the sections of the clocks and of the bank lie
pub record Lie (ls : List (List ℕ)) (parts : Parts) : Type 0 where
  pub within : parts.clocks.end < length ls
  pub some : 0 < parts.bank.words
  pub few : parts.bank.words ≤ 65536
  pub order : parts.bank.place < parts.bank.end
  pub others : Tiles parts.bank.end parts.others (length ls)

pub parts_lie : (ls : List (List ℕ)) (parts : Parts) → Tiles (header_from ls 1) (in_order parts) (length ls) → AllByRecursion (IsSection ls) (in_order parts) → Lie ls parts
parts_lie ls parts tiled each =
    let last = tiles-le parts.bank.end (length ls) parts.others tiled.2.2 in
    record {
      within = omega (arith, tiled.2.0, tiled.2.1, last);
      some = each.1.0.form.0;
      few = each.1.0.form.1;
      order = tiled.2.1;
      others = tiled.2.2;
    }
