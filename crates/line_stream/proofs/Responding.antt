-- The responses to lines, one after another.
use Rattle.std.proofs.Common.{◌≡◌, ℕ, ◌<◌, true, List, [], ◌∷◌, ◌++◌, length, refl, sym, ap, subst, ◌∙◌, arith, inl, inr, append_assoc}
use Rattle.std.proofs.lemmas.List.{append-nil}
use Rattle.std.proofs.lemmas.Bool.Decides.{nat_tests}
use Rattle.std.proofs.KnownBytes.{Appends-nil}
use Rattle.std.specs.declared.option.Option.{Option}
use Rattle.std.specs.Io.KnownBytes.{Appends}
use Rattle.line_stream.specs.Lines.{is_shown, shown}
use Rattle.line_stream.specs.Outputs.{WritesFront}
use Rattle.line_stream.specs.Answers.{IsOut, Writes, WritesPart}
use Rattle.line_stream.proofs.Buffered.{StandsFor}

pub shown-some : (b : ℕ) (line : List ℕ) → shown (b ∷ line) ≡ (b ∷ line) ∷ []
shown-some b line =
    let some : is_shown (b ∷ line) ≡ true = grind (arith, nat_tests) in rw some refl

module _ (is_reply : List ℕ → List ℕ → Type 0) where
  -- each line has a response
  abbrev pub SomeReply : Type 0
  SomeReply = (line : List ℕ) → (response : List ℕ) × is_reply line response

  -- all lines longer than the limit have the same responses
  abbrev pub LongLines : ℕ → Type 0
  LongLines limit = (line other response : List ℕ) → limit < length line → limit < length other → is_reply line response → is_reply other response

  pub IsOut-append : (ls ms : List (List ℕ)) (o p : List ℕ) → IsOut is_reply ls o → IsOut is_reply ms p → IsOut is_reply (ls ++ ms) (o ++ p)
  IsOut-append [] ms o p h k = subst (λ t. IsOut is_reply ms (t ++ p)) (sym h) k
  IsOut-append (l ∷ ls) ms o p h k =
      (h.0, h.1 ++ p, h.2, IsOut-append ls ms h.1 p h.3 k, ap (λ t. t ++ p) h.4 ∙ append_assoc h.0 h.1 p)

  -- the same bytes have the same responses
  pub out_at : (lines : List ℕ → List (List ℕ)) (bytes other out same : List ℕ) → bytes ≡ other → out ≡ same → IsOut is_reply (lines bytes) out → IsOut is_reply (lines other) same
  out_at lines bytes other out same e f h =
      subst (λ t. IsOut is_reply (lines t) same) e (subst (λ o. IsOut is_reply (lines bytes) o) f h)

  -- there are responses to all lines
  pub some_out : SomeReply → (ls : List (List ℕ)) → (o : List ℕ) × IsOut is_reply ls o
  some_out some [] = ([], refl)
  some_out some (l ∷ ls) =
      let more = some_out some ls in
      let r = some l in
      (r.0 ++ more.0, (r.0, more.0, r.1, more.1, refl))

  one_line : (line r : List ℕ) → 0 < length line → is_reply line r → IsOut is_reply (shown line) r
  one_line [] r some reply = absurd (omega arith)
  one_line (b ∷ line) r some reply =
      subst (λ ls. IsOut is_reply ls r) (sym (shown-some b line)) (r, [], reply, refl, sym (append-nil r))

  no_line : (line : List ℕ) → length line ≡ 0 → IsOut is_reply (shown line) []
  no_line [] e = refl
  no_line (b ∷ line) e = absurd (omega arith)

  -- an empty line has no response
  pub Writes-nothing : (a : Option (List ℕ)) (line : List ℕ) → length line ≡ 0 → Writes is_reply (shown line) a a
  Writes-nothing a line e = record { written = []; appended = Appends-nil a; replies = no_line line e }

  -- the response to a line was written
  pub Writes-line : (a b : Option (List ℕ)) (line r : List ℕ) → 0 < length line → is_reply line r → Appends a b r → Writes is_reply (shown line) a b
  Writes-line a b line r some reply h = record { written = r; appended = h; replies = one_line line r some reply }

  -- a front of the response to a line was written
  pub WritesPart-line : (a b : Option (List ℕ)) (line r : List ℕ) → 0 < length line → is_reply line r → WritesFront r a b → WritesPart is_reply (shown line) a b
  WritesPart-line a b line r some reply h = record {
    written = h.written;
    lost = h.lost;
    appended = h.appended;
    replies = subst (λ t. IsOut is_reply (shown line) t) h.front (one_line line r some reply);
  }

  long_line : (limit : ℕ) (line other out : List ℕ) → LongLines limit → limit < length line → limit < length other → IsOut is_reply (shown line) out → IsOut is_reply (shown other) out
  long_line limit [] other out law long long' h = absurd (omega arith)
  long_line limit (b ∷ line) [] out law long long' h = absurd (omega arith)
  long_line limit (b ∷ line) (c ∷ other) out law long long' h =
      let one = subst (λ ls. IsOut is_reply ls out) (shown-some b line) h in
      subst (λ ls. IsOut is_reply ls out) (sym (shown-some c other)) (one.0, one.1, law (b ∷ line) (c ∷ other) one.0 long long' one.2, one.3, one.4)

  -- a response to what is kept of a line is one to the line
  pub IsOut-stands : (limit : ℕ) (bytes line out : List ℕ) → LongLines limit → StandsFor limit bytes line → IsOut is_reply (shown bytes) out → IsOut is_reply (shown line) out
  IsOut-stands limit bytes line out law (inl e) h = subst (λ t. IsOut is_reply (shown t) out) e h
  IsOut-stands limit bytes line out law (inr long) h =
      long_line limit bytes line out law long.0 long.1 h
