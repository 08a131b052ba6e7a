-- The laws of rules and plans in one world, and from there over a model and all of its worlds.
use Rattle.std.proofs.Common.{◌≡◌, ◌∙◌, subst, [], IsTrue}
use Rattle.edm_model.specs.Models.{Model}
use Rattle.edm_data.specs.Worlds.{World}
use Rattle.apply_ast.specs.Trees.{Pipe, is_long}
use Rattle.context_typing.specs.Shapes.{Shape}
use Rattle.context_typing.specs.Typing.{Customs, Types, is_lawful, customs_typed}
use Rattle.apply_meaning.specs.Meaning.{mean}
use Rattle.rewrite_laws.specs.RewriteLaws.{IsTypedFrom, MayStandFor, SameMeaning}

-- what is reached from a typed pipeline may stand for it in each world
abbrev pub KeepsMeaningInWorlds : (World → Type 0) → (Model → Customs → Shape → Pipe → Pipe → Type 0) → Type 0
KeepsMeaningInWorlds A Reaches =
    (w : World) (c : Customs) (S S' : Shape) (p q : Pipe) → IsTrue (customs_typed w.model c) → IsTrue (is_lawful w.model S) → Types w.model c S p S'
    → Reaches w.model c S p q → IsTrue (is_long q) × SameMeaning A w c S p q

-- so it may stand for it over every model, which is that of the world without entities
pub over_models : (A : World → Type 0) (Reaches : Model → Customs → Shape → Pipe → Pipe → Type 0) → KeepsMeaningInWorlds A Reaches
    → (m : Model) (c : Customs) (S S' : Shape) (p q : Pipe) → IsTypedFrom m c S S' p → Reaches m c S p q → MayStandFor A m c S S' p q
over_models A Reaches K m c S S' p q t h =
    let x = K (record { model = m; entities = [] }) c S S' p q t.customs t.lawful t.typed h in record {
      typed = (x.0, x.1.1 ∙ t.typed.1);
      names = x.1.0;
      means = λ w e a l f.
          let P : Model → Type 0 = λ n. IsTrue (customs_typed n c) → IsTrue (is_lawful n S) → Types n c S p S' → Reaches n c S p q → mean w c S q l ≡ mean w c S p l in
          subst P e (λ k law typed reached. (K w c S S' p q k law typed reached).1.2 a l f) t.customs t.lawful t.typed h;
    }
