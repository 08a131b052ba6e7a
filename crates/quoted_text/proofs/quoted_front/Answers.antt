use Rattle.std.proofs.Common.{rules, chars, string_bytes}
use Rattle.std.proofs.lemmas.Str.{IsUtf8-string_bytes}
use Rattle.quoted_text.proofs.PrintableLaws.{front_printable}
use Rattle.quoted_text.proofs.quoted_front.Goals as goal

pub returns-clause-printable : goal.returns-clause-printable
returns-clause-printable c = front_printable (string_bytes c.if-has_more.out) (chars c.args.text.now) c.args.most (IsUtf8-string_bytes c.if-has_more.out) (search rules)
