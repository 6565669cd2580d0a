-- The refusals, each by its number, its place (0 where none is named) and the layer that it arises in.
use Rattle.std.specs.Prelude.{ℕ, List, ◌++◌, codes, decimal}
use Rattle.refusals.specs.declared.Refusal.{Refusal}
use Rattle.refusals.specs.declared.Refusal.TheVariants.{TooManyTokens, ColumnLength, WrongKind, WrongContextualKind, WrongEdition, UnlawfulRow, LogFull, MarksShort, SinkFull, FileShort, FileLong, ColumnShort}
use Rattle.refusals.specs.declared.Layer.{Layer}
use Rattle.refusals.specs.declared.Layer.TheVariants.{Input, Log, Sink, File}

abbrev pub told : Refusal → ℕ × ℕ × Layer
-- more tokens than a reading takes
told (TooManyTokens l) = (1, 0, l)
-- a column of another length than the kinds, or too long a log
told ColumnLength = (2, 0, Input)
-- a kind that no token has, at this token
told (WrongKind p) = (3, p, Input)
-- a contextual kind that this token cannot have
told (WrongContextualKind p) = (4, p, Input)
-- an edition that there is not, at this token
told (WrongEdition p) = (5, p, Input)
-- a row that breaks a law of islands, at this token
told (UnlawfulRow p) = (6, p, Input)
-- a record is due at this token, and the log has no room for it
told (LogFull p) = (8, p, Log)
-- fewer marks than records
told MarksShort = (9, 0, Log)
-- the sink has no room for an item that this record tells
told (SinkFull p) = (10, p, Sink)
-- a file that ends before its tokens do
told FileShort = (11, 0, File)
-- a file with a bit set, or a byte left over, behind its tokens
told FileLong = (12, 0, File)
-- a column with no place for all tokens of a file
told ColumnShort = (13, 0, File)

abbrev pub number_of : Refusal → ℕ
number_of r = (told r).0

abbrev pub place_of : Refusal → ℕ
place_of r = (told r).1

abbrev pub layer_of : Refusal → Layer
layer_of r = (told r).2

-- the line that a program prints of it: `refused`, its number and its place
abbrev pub text : Refusal → List ℕ
text r = codes "refused " ++ (decimal (number_of r) ++ (codes " " ++ decimal (place_of r)))
