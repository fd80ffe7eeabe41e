-- What the program's headers and sections say, by the bytes of their words.
use Rattle.std.specs.Prelude.{List, ◌∷◌}
use Rattle.std.specs.Option.{option_map}
use Rattle.bundle_sections.specs.declared.header.Header.{Header}
use Rattle.bundle_sections.specs.declared.header.Header.TheVariants as headers
use Rattle.bundle_sections.specs.declared.section.BankSection.{BankSection}
use Rattle.bundle_sections.specs.declared.section.ClockSection.{ClockSection}
use Rattle.bundle_sections.specs.declared.section.ClockText.{ClockText}
use Rattle.bundle_sections.specs.declared.section.ClockText.TheVariants as clock_texts
use Rattle.bundle_sections.specs.declared.section.Section.{Section}
use Rattle.bundle_sections.specs.Headers.{Said, device_tree, clocks, bank, lock, late, driver, order}
use Rattle.bundle_sections.specs.Sections.{SaidSection}

-- what a header says, by the bytes of its words
abbrev pub said_header : Header → Said
said_header headers.DeviceTree = device_tree
said_header headers.Clocks = clocks
said_header (headers.Bank words) = bank words
said_header headers.Lock = lock
said_header headers.Late = late
said_header (headers.Driver name path) = driver name.now (option_map (λ p. p.now) path)
said_header headers.Order = order

-- what a section's header says, and the section's places
abbrev pub said_section : Section → SaidSection
said_section s = record { says = said_header s.header; place = s.place; end = s.end }

-- the header of the clocks, in one of its forms
abbrev pub clocks_said : ClockText → Said
clocks_said clock_texts.Lines = clocks
clocks_said clock_texts.DeviceTree = device_tree

-- the section of the clocks, as what its header says and its places
abbrev pub clock_section : ClockSection → SaidSection
clock_section s = record { says = clocks_said s.text; place = s.place; end = s.end }

-- the section of the register bank, as what its header says and its places
abbrev pub bank_section : BankSection → SaidSection
bank_section s = record { says = bank s.words; place = s.place; end = s.end }

-- the sections of a bundle: the clocks', the bank's, and those behind them
pub record Parts : Type 0 where
  pub clocks : ClockSection
  pub bank : BankSection
  pub others : List SaidSection

-- all of them in their order
abbrev pub in_order : Parts → List SaidSection
in_order parts = clock_section parts.clocks ∷ (bank_section parts.bank ∷ parts.others)
