-- What the readers of a source know.
use Rattle.std.proofs.Common.{◌≡◌, ℕ, ◌+◌, ◌<◌, ◌≤◌, ◌==◌, Bool, true, false, cond, List, length, None, Err, refl, ap, inl, inr, arith}
use Rattle.std.specs.Str.{is_utf8}
use Rattle.bundle_text.specs.Faults.{Tells}
use Rattle.bundle_text.proofs.Unless.{unless_none}
use Rattle.bundle_text.specs.Lines.{line_at}
use Rattle.bundle_text.specs.declared.reason.Reason.{Reason}
use Rattle.bundle_text.specs.declared.reason.Reason.TheVariants.{NotUtf8}
use Rattle.bundle_sections.specs.declared.section.ClockSection.{ClockSection}
use Rattle.bundle_sections.specs.Sections.{text_fault}
use Rattle.bundle_text.specs.declared.fault.BundleFault.{BundleFault}
use Rattle.bundle_text.specs.declared.fault.BundleFault.TheVariants.{Refused}
use Rattle.bundle_text.specs.declared.reason.Reason.TheVariants as reasons
use Rattle.clk_io.specs.declared.reading.TheConstants.{MOST_BYTES}
use Rattle.bundle_clocks.specs.Source.{text_of_lines, source_of}
use Rattle.bundle_clocks.specs.Verdict.{SourceRefused, nodes_of}
use Rattle.bundle_clocks.proofs.Room.{room-slice}
use Rattle.dts_tokens.specs.declared.token.Token.{Token}
use Rattle.dts_tokens.specs.Tokens.{Tokens}
use Rattle.dts_tree.specs.declared.fault.TreeFault.TheVariants.{Syntax}
use Rattle.dts_tree.specs.Parsed.{spelled}

-- a line without a fault as text is UTF-8
pub text_is : (ls : List (List ℕ)) (k : ℕ) → text_fault ls k ≡ None → is_utf8 (line_at ls k) ≡ true
unfolding text_fault
text_is ls k h = unless_none _ NotUtf8 h

-- a source is shorter than the bundle
pub source_room : (ls : List (List ℕ)) (s : ClockSection) → s.place < s.end → s.end < length ls → length (text_of_lines ls) ≤ MOST_BYTES + 1 → length (source_of ls s) ≤ MOST_BYTES
unfolding source_of
source_room ls s order within few = omega (arith, room-slice ls (s.place + 1) s.end (omega arith) within)

-- a source without tokens
pub no_tokens : (version first : ℕ) (source : List ℕ) (tokens : List Token) (fault : BundleFault) → fault ≡ Refused first reasons.Syntax → Tokens source tokens → (length tokens == 0) ≡ true → Tells (SourceRefused version first source) fault
no_tokens version first source tokens fault e cuts empty =
    let found : nodes_of first source tokens ≡ Err (Syntax first) = ap (λ b. cond b (Err (Syntax first)) (spelled source tokens)) empty in
    rw e (inr (inl (record { tokens = tokens; cuts = cuts; fault = Syntax first; found = found; told_is = refl })))
