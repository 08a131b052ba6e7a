-- What was passed on to a writer that is flushed.
use Rattle.std.proofs.Common.{ℕ, ◌≤◌, List, length, take, None, Some, sym, ◌∙◌, arith}
use Rattle.std.specs.declared.option.Option.{Option}
use Rattle.std.specs.Io.KnownBytes.{Appends, Keeps}
use Rattle.std.proofs.lemmas.List.{append-nil}
use Rattle.apply_io.specs.Adapters.{AppendsFront}

keeps_appends : (old new : Option (List ℕ)) (piece : List ℕ) → Keeps old new → Appends old new (take 0 piece)
keeps_appends None new piece h = tt
keeps_appends (Some xs) None piece h = h
keeps_appends (Some xs) (Some ys) piece h = h ∙ sym (append-nil xs)

-- what was kept grew by nothing
pub kept-front : (old new : Option (List ℕ)) (piece : List ℕ) → Keeps old new → AppendsFront old new piece
kept-front old new piece h = record { count = 0; within = omega arith; appended = keeps_appends old new piece h }

-- what was appended stays, where the rest is kept
pub appended-kept : (old middle new : Option (List ℕ)) (bytes : List ℕ) → Appends old middle bytes → Keeps middle new → Appends old new bytes
appended-kept None middle new bytes h k = tt
appended-kept (Some xs) None new bytes h k = absurd h
appended-kept (Some xs) (Some ys) None bytes h k = k
appended-kept (Some xs) (Some ys) (Some zs) bytes h k = k ∙ h

-- and it is a front of the piece
pub appended-front : (old middle new : Option (List ℕ)) (piece : List ℕ) (n : ℕ) → n ≤ length piece → Appends old middle (take n piece) → Keeps middle new → AppendsFront old new piece
appended-front old middle new piece n within h k =
    record { count = n; within = within; appended = appended-kept old middle new (take n piece) h k }

pub ruleset passing = (kept-front, appended-kept, appended-front)
