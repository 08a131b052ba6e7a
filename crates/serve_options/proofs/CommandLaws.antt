-- Facts of the command that is read.
use Rattle.std.proofs.Common.{◌≡◌, ◌≢◌, true, Bool, false, refl, ap, true≢false, sym, subst, ◌∙◌, [], ◌∷◌, inl, inr, None}
use Rattle.clap.specs.Words.{is_simple_and_free, HasKind, kind_of}
use Rattle.clap.specs.Kinds.{IsAmong, Kinds}
use Rattle.clap.specs.Simple.{is_simple}
use Rattle.clap.specs.declared.error.Error.{Error}
use Rattle.clap.specs.declared.error.kind.ErrorKind.{ErrorKind}
use Rattle.clap.specs.declared.error.kind.ErrorKind.TheVariants.{DisplayHelp, OutOfMemory}
use Rattle.clap.proofs.OnLiterals.{clap_on_literals}
use Rattle.serve_options.specs.Command.{serve_app, values_unless}
use Rattle.serve_options.specs.Options.{OptionValues}

-- the command is one of which clap states the outcome
pub is_free : is_simple_and_free serve_app ≡ true
unfolding clap_on_literals serve_app
is_free = refl

pub is_plain : is_simple serve_app ≡ true
unfolding clap_on_literals serve_app
is_plain = refl

-- an error that is not want of memory comes only where something is wrong with the words
pub refused : (kinds : Kinds) (e : Error) (v : OptionValues) → HasKind kinds e → kind_of e ≢ OutOfMemory → values_unless kinds v ≡ None
refused [] e v h other = elim h [ inl memory ↦ absurd (other memory) | inr among ↦ absurd among ]
refused (k ∷ ks) e v h other = refl

is_memory : ErrorKind → Bool
is_memory OutOfMemory = true
is_memory other = false

no_help : OutOfMemory ≡ DisplayHelp → ⊥
unfolding is_memory
no_help e = true≢false (ap is_memory e)

-- an error that shows help comes only where help is asked for
pub asked : (kinds : Kinds) (e : Error) → HasKind kinds e → kind_of e ≡ DisplayHelp → IsAmong DisplayHelp kinds
asked kinds e (inl memory) is_help = absurd (no_help (sym memory ∙ is_help))
asked kinds e (inr among) is_help = subst (λ k. IsAmong k kinds) is_help among
