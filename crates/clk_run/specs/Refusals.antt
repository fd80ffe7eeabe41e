-- How a refused bundle is told.
use Rattle.std.specs.Prelude.{ℕ, List, ◌++◌, codes}
use Rattle.std.specs.Fmt.{decimal}
use Rattle.bundle_text.specs.declared.reason.Reason.{Reason}
use Rattle.bundle_text.specs.declared.reason.Reason.TheVariants as reason

-- the word of a reason
unfoldable pub reason_word : Reason → List ℕ
reason_word reason.TooLong = codes "TooLong"
reason_word reason.NotUtf8 = codes "NotUtf8"
reason_word reason.BadVersion = codes "BadVersion"
reason_word reason.StrayLine = codes "StrayLine"
reason_word reason.UnknownSection = codes "UnknownSection"
reason_word reason.BadHeader = codes "BadHeader"
reason_word reason.SectionOrder = codes "SectionOrder"
reason_word reason.TwiceDefined = codes "TwiceDefined"
reason_word reason.TooManyDrivers = codes "TooManyDrivers"
reason_word reason.MissingSection = codes "MissingSection"
reason_word reason.BadChar = codes "BadChar"
reason_word reason.OpenString = codes "OpenString"
reason_word reason.OpenComment = codes "OpenComment"
reason_word reason.NumberTooBig = codes "NumberTooBig"
reason_word reason.Syntax = codes "Syntax"
reason_word reason.TooDeep = codes "TooDeep"
reason_word reason.NoSuchLabel = codes "NoSuchLabel"
reason_word reason.UnknownCompatible = codes "UnknownCompatible"
reason_word reason.NoCells = codes "NoCells"
reason_word reason.MissingProperty = codes "MissingProperty"
reason_word reason.BadName = codes "BadName"
reason_word reason.TwiceNamed = codes "TwiceNamed"
reason_word reason.BadSpecifier = codes "BadSpecifier"
reason_word reason.BadAssigned = codes "BadAssigned"
reason_word reason.UnknownKind = codes "UnknownKind"
reason_word reason.BadWords = codes "BadWords"
reason_word reason.BadNumber = codes "BadNumber"
reason_word reason.BadFlag = codes "BadFlag"
reason_word reason.UnknownName = codes "UnknownName"
reason_word reason.TooMany = codes "TooMany"
reason_word reason.BadRange = codes "BadRange"
reason_word reason.FieldOutOfBank = codes "FieldOutOfBank"
reason_word reason.FieldOverlap = codes "FieldOverlap"
reason_word reason.Cycle = codes "Cycle"
reason_word reason.TooMuchWork = codes "TooMuchWork"
reason_word reason.UnknownCommand = codes "UnknownCommand"
reason_word reason.TooManyCommands = codes "TooManyCommands"
reason_word reason.TooManyTurns = codes "TooManyTurns"

-- the line that says what a bundle is refused for: `error: line L: REASON`
abbrev pub refusal_text : ℕ → Reason → List ℕ
refusal_text line why = codes "error: line " ++ (decimal line ++ (codes ": " ++ (reason_word why ++ codes "\n")))
