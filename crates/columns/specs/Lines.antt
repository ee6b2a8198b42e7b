-- Lines of the input, each a list of bytes with its byte 10 at the end, and what they are read as.
use Rattle.std.specs.Prelude.{◌≡◌, ℕ, ◌+◌, ◌-◌, ◌<◌, Bool, true, cond, not, ◌&&◌, List, [], ◌∷◌, length, take, drop, is_some, Some, None, Ok, Err, Option, Result, ◌==◌, slice_index}
use Rattle.events.specs.declared.Refusal.{Refusal}
use Rattle.events.specs.declared.Refusal.TheVariants.{Unreadable}
use Rattle.columns.specs.declared.line.Section.{Section}
use Rattle.columns.specs.declared.line.Section.TheVariants.{Cues, Log as LogSection}
use Rattle.columns.specs.declared.line.Line.{Line}
use Rattle.columns.specs.declared.line.Line.TheVariants.{Cue, Log, Parting}
use Rattle.columns.specs.Fields.{number_below}
use Rattle.columns.specs.Kinds.{kind_letter}
use Rattle.columns.specs.Written.{cue_line, log_line}

-- The first line of an input, with its byte 10 if it has one.
abbrev pub first_line : List ℕ → List ℕ
first_line [] = []
first_line (b ∷ bs) = cond (b == 10) (b ∷ []) (b ∷ first_line bs)

-- A byte in front of the first of some lines.
abbrev pub in_front : ℕ → List (List ℕ) → List (List ℕ)
in_front b [] = (b ∷ []) ∷ []
in_front b (l ∷ ls) = (b ∷ l) ∷ ls

-- All lines of an input; only the last can lack its byte 10.
abbrev pub lines_of : List ℕ → List (List ℕ)
lines_of [] = []
lines_of (b ∷ bs) = cond (b == 10) ((b ∷ []) ∷ lines_of bs) (in_front b (lines_of bs))

-- A line by its fields, each a list of bytes; a `Line` borrows them.
pub data Fields : Type 0 where
  cue : List ℕ → List ℕ → List ℕ → Fields
  log : List ℕ → List ℕ → List ℕ → Fields
  parting : Fields

-- Columns a to b of a line, counted from 1.
abbrev pub columns : ℕ → ℕ → List ℕ → List ℕ
columns a b line = take (b + 1 - a) (drop (a - 1) line)

-- A field of one blank; a field of one kind letter.
abbrev pub blank_field : List ℕ → Bool
blank_field f = length f == 1 && slice_index f 0 == 32

abbrev pub kind_field : List ℕ → Bool
kind_field f = length f == 1 && kind_letter (slice_index f 0)

-- The limits of a line's numbers: each number is below its own.
abbrev pub seconds : ℕ
seconds = 86400

abbrev pub carts : ℕ
carts = 1000000

abbrev pub cue_numbers : ℕ
cue_numbers = 10000

-- A line of n columns, ended by byte 10.
abbrev pub ended : ℕ → List ℕ → Bool
ended n l = length l == n + 1 && slice_index l n == 10

-- Both lines: a number below the limit in the first w columns, blank, kind, blank, cart of six columns, byte 10.
-- The column that such a line is refused at, where it is: 0 for a wrong length, else the first column of the
-- leftmost bad field.
abbrev pub bad_column : ℕ → ℕ → List ℕ → Option ℕ
bad_column w limit l =
    cond (not (ended (w + 9) l)) (Some 0)
    (cond (not (is_some (number_below limit (columns 1 w l)))) (Some 1)
    (cond (not (blank_field (columns (w + 1) (w + 1) l))) (Some (w + 1))
    (cond (not (kind_field (columns (w + 2) (w + 2) l))) (Some (w + 2))
    (cond (not (blank_field (columns (w + 3) (w + 3) l))) (Some (w + 3))
    (cond (not (is_some (number_below carts (columns (w + 4) (w + 9) l)))) (Some (w + 4)) None)))))

-- Its number, kind and cart.
abbrev pub AreFields : ℕ → List ℕ → List ℕ → List ℕ → List ℕ → Type 0
AreFields w l number kind cart =
    (number ≡ columns 1 w l) × (kind ≡ columns (w + 2) (w + 2) l) × (cart ≡ columns (w + 4) (w + 9) l)

-- The first column of the leftmost bad field, 0 where none is bad. Each field is bad or good by itself.
-- Cue line: cue number 1 to 4, blank 5, kind 6, blank 7, cart 8 to 13.
abbrev pub bad_cue_column : List ℕ → ℕ
bad_cue_column l =
    cond (not (is_some (number_below cue_numbers (columns 1 4 l)))) 1
    (cond (not (blank_field (columns 5 5 l))) 5
    (cond (not (kind_field (columns 6 6 l))) 6
    (cond (not (blank_field (columns 7 7 l))) 7
    (cond (not (is_some (number_below carts (columns 8 13 l)))) 8 0))))

-- Log line: second 1 to 5, blank 6, kind 7, blank 8, cart 9 to 14.
abbrev pub bad_log_column : List ℕ → ℕ
bad_log_column l =
    cond (not (is_some (number_below seconds (columns 1 5 l)))) 1
    (cond (not (blank_field (columns 6 6 l))) 6
    (cond (not (kind_field (columns 7 7 l))) 7
    (cond (not (blank_field (columns 8 8 l))) 8
    (cond (not (is_some (number_below carts (columns 9 14 l)))) 9 0))))

-- These fields where no column is bad, else the bad column.
abbrev pub read_as : ℕ → Fields → Result Fields Refusal
read_as column fields = cond (column == 0) (Ok fields) (Err (Unreadable column))

unfoldable pub read_cue : List ℕ → Result Fields Refusal
read_cue l = read_as (bad_cue_column l) (cue (columns 1 4 l) (columns 6 6 l) (columns 8 13 l))

unfoldable pub read_log : List ℕ → Result Fields Refusal
read_log l = read_as (bad_log_column l) (log (columns 1 5 l) (columns 7 7 l) (columns 9 14 l))

-- What a line is read as. Up to the first parting line only that and a cue line have the right
-- length, behind it only a log line.
unfoldable pub read_line : Section → List ℕ → Result Fields Refusal
read_line Cues l = cond (ended 0 l) (Ok parting) (cond (ended 13 l) (read_cue l) (Err (Unreadable 0)))
read_line LogSection l = cond (ended 14 l) (read_log l) (Err (Unreadable 0))

-- The fields of a `Line`, and of a reader's answer.
abbrev pub fields_of : Line → Fields
fields_of (Cue number kind cart) = cue number.now kind.now cart.now
fields_of (Log second kind cart) = log second.now kind.now cart.now
fields_of Parting = parting

abbrev pub seen : Result Line Refusal → Result Fields Refusal
seen (Ok line) = Ok (fields_of line)
seen (Err refusal) = Err refusal

-- An event's second, kind letter and cart from its three fields, where each is good.
abbrev pub event_from : Option ℕ → List ℕ → Option ℕ → Option (ℕ × ℕ × ℕ)
event_from None kind cart = None
event_from (Some s) kind None = None
event_from (Some s) kind (Some c) = cond (kind_field kind) (Some (s, slice_index kind 0, c)) None

-- The event of a line; a cue line's has second 0.
abbrev pub event_of : Fields → Option (ℕ × ℕ × ℕ)
event_of (cue number kind cart) = event_from (Some 0) kind (number_below carts cart)
event_of (log second kind cart) = event_from (number_below seconds second) kind (number_below carts cart)
event_of parting = None

-- The cue number of a cue line.
abbrev pub cue_number_of : Fields → Option ℕ
cue_number_of (cue number kind cart) = number_below cue_numbers number
cue_number_of (log second kind cart) = None
cue_number_of parting = None

-- A line has all that its kind of line says: a cue line its number and event, a log line its event.
abbrev pub Whole : Fields → Type 0
Whole (cue number kind cart) = (is_some (cue_number_of (cue number kind cart)) ≡ true) × (is_some (event_of (cue number kind cart)) ≡ true)
Whole (log second kind cart) = is_some (event_of (log second kind cart)) ≡ true
Whole parting = Unit {0}

-- The numbers that a cue line says: its cue number, kind letter and cart.
abbrev pub cue_says : Fields → Option (ℕ × ℕ × ℕ)
cue_says (cue number kind cart) = event_from (number_below cue_numbers number) kind (number_below carts cart)
cue_says (log second kind cart) = None
cue_says parting = None

-- The numbers that a log line says: its second, kind letter and cart.
abbrev pub log_says : Fields → Option (ℕ × ℕ × ℕ)
log_says (cue number kind cart) = None
log_says (log second kind cart) = event_from (number_below seconds second) kind (number_below carts cart)
log_says parting = None

-- What a reader's answer says: nothing where it is a refusal.
abbrev pub said : (Fields → Option (ℕ × ℕ × ℕ)) → Result Fields Refusal → Option (ℕ × ℕ × ℕ)
said says (Ok fields) = says fields
said says (Err refusal) = None

-- A line is the text of a cue line with these numbers, each below its limit.
abbrev pub CueText : ℕ → ℕ → ℕ → List ℕ → Type 0
CueText number letter cart l = (number < cue_numbers) × (kind_letter letter ≡ true) × (cart < carts) × (l ≡ cue_line number letter cart)

abbrev pub LogText : ℕ → ℕ → ℕ → List ℕ → Type 0
LogText second letter cart l = (second < seconds) × (kind_letter letter ≡ true) × (cart < carts) × (l ≡ log_line second letter cart)

-- A line is read as a cue line exactly when it is the text of that cue line, and so for the others.
abbrev pub CueWritten : List ℕ → Type 0
CueWritten l =
    (number letter cart : ℕ) →
    (said cue_says (read_line Cues l) ≡ Some (number, letter, cart) → CueText number letter cart l) ×
    (CueText number letter cart l → said cue_says (read_line Cues l) ≡ Some (number, letter, cart))

abbrev pub LogWritten : List ℕ → Type 0
LogWritten l =
    (second letter cart : ℕ) →
    (said log_says (read_line LogSection l) ≡ Some (second, letter, cart) → LogText second letter cart l) ×
    (LogText second letter cart l → said log_says (read_line LogSection l) ≡ Some (second, letter, cart))

abbrev pub PartingWritten : List ℕ → Type 0
PartingWritten l = (read_line Cues l ≡ Ok parting → l ≡ 10 ∷ []) × (l ≡ 10 ∷ [] → read_line Cues l ≡ Ok parting)

abbrev pub LineWritten : Section → List ℕ → Type 0
LineWritten Cues l = CueWritten l × PartingWritten l
LineWritten LogSection l = LogWritten l
