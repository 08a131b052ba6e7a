-- What the entities of the generated file are read as.
use Rattle.std.proofs.Common.{◌≡◌, ℕ, ◌<◌, ◌^◌, ◌==◌, ◌-◌, ◌/◌, true, false, List, [], ◌∷◌, refl, sym, ◌∙◌, ap, arith, codes, pos, Some, lt-ltb}
use Rattle.std.specs.Prelude.{if◌then◌else◌, nat_le}
use Rattle.std.proofs.lemmas.Bool.{and_from, le-leb}
use Rattle.serde_json.specs.Data.{string, number, unsigned}
use Rattle.edm_values.specs.declared.Dec.{Dec}
use Rattle.edm_values.specs.declared.Value.{Value}
use Rattle.edm_values.specs.Lists.{all_some}
use Rattle.edm_values.specs.Literals.{Written, PastRange, integer_in_range, decimal_literal, decimal_text}
use Rattle.edm_values.specs.Parts.{is_decimal, mantissa_max}
use Rattle.edm_values.specs.PartLaws.{dec_is}
use Rattle.edm_values.specs.Values.{dec, decimal}
use Rattle.edm_values.proofs.TextLaws.{decimal_reads}
use Rattle.edm_model.specs.JsonTrees.{object_of}
use Rattle.edm_model.specs.LookUps.{properties_of}
use Rattle.edm_model.specs.SampleModel.{sample_model}
use Rattle.edm_data.specs.DataFile.{written, entity_of}
use Rattle.sample_data.specs.Generator.{customer, customer_tree, org, org_name, org_tree, amount, sale, sale_tree, customer_name, buyer, seller}

pub customer_read : (j : ℕ) → entity_of (properties_of sample_model 0) (customer_tree j) ≡ Some (customer j)
customer_read j = refl

pub org_read : (j : ℕ) → entity_of (properties_of sample_model 1) (org_tree j) ≡ Some (org j)
org_read j =
    elim (j == 0) as (λ b. entity_of (properties_of sample_model 1) (object_of ((codes "ID", string (org_name j)) ∷ (if b then [] else (codes "ParentID", string (org_name ((j - 1) / 4))) ∷ []))) ≡ Some (Value.Text (org_name j) ∷ (if b then Value.Null else Value.Text (org_name ((j - 1) / 4))) ∷ [])) [ true ↦ refl | false ↦ refl ]

-- the text of an amount is read as the amount
pub amount_read : (m : ℕ) → m < 10000 → written (decimal_literal 2 16 (decimal_text (pos m) 2)) ≡ Some (dec (pos m) 2)
amount_read m h =
    let in_range : is_decimal (pos m) 2 ≡ true = and_from (nat_le m mantissa_max) true (le-leb m mantissa_max (omega arith)) refl in
    let d : Dec = decimal (pos m) 2 in_range in
    ap written (decimal_reads d 16 (lt-ltb m (10 ^ 16) (omega arith))) ∙ ap Some (sym (dec_is d))

-- a sale whose amount is written as t
sale_entity : (t buyer seller : List ℕ) (v : Value) (i : ℕ) → written (decimal_literal 2 16 t) ≡ Some v → i < 2 ^ 63
    → entity_of (properties_of sample_model 2) (object_of ((codes "Amount", string t) ∷ (codes "CustomerID", string buyer) ∷ (codes "ID", number (unsigned i)) ∷ (codes "OrgID", string seller) ∷ [])) ≡ Some (v ∷ Value.Text buyer ∷ Value.Int (pos i) ∷ Value.Text seller ∷ [])
sale_entity t buyer seller v i read small =
    let id : written (integer_in_range (pos i)) ≡ Some (Value.Int (pos i)) = ap (λ b. written (if b then Written (Value.Int (pos i)) else PastRange)) (lt-ltb i (2 ^ 63) small) in
    λ k. all_some (read k ∷ Some (Value.Text buyer) ∷ id k ∷ Some (Value.Text seller) ∷ [])

pub sale_read : (n i : ℕ) → amount i < 10000 → i < 2 ^ 63 → entity_of (properties_of sample_model 2) (sale_tree n i) ≡ Some (sale n i)
sale_read n i low small = sale_entity (decimal_text (pos (amount i)) 2) (customer_name (buyer i)) (org_name (seller n i)) (dec (pos (amount i)) 2) i (amount_read (amount i) low) small
