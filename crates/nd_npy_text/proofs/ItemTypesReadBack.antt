-- An item type and a truth value that were written, read back.
use Rattle.std.proofs.Common.{◌≡◌, ◌∙◌, ℕ, Bool, true, false, List, ◌∷◌, ◌++◌, length, refl, ap}
use Rattle.std.specs.Prelude.{IsTrue, Ok, Some}
use Rattle.nd_npy_text.specs.declared.item_type.Kind.{Kind}
use Rattle.nd_npy_text.specs.declared.item_type.Kind.TheVariants as kinds
use Rattle.nd_npy_text.specs.declared.item_type.ByteOrder.{ByteOrder}
use Rattle.nd_npy_text.specs.declared.item_type.ByteOrder.TheVariants.{Little, Big, NotApplicable}
use Rattle.nd_npy_text.specs.declared.item_type.ItemType.{ItemType}
use Rattle.nd_npy_text.specs.ItemTypes.{kind_code, order_mark, order_marked, order_goes_with, in_order, item_type_text, has_its_order, item_type_named, ◌>>?◌}
use Rattle.nd_npy_text.specs.ItemTypeReading.{is_kind_letter, item_word_in, or_other_items}
use Rattle.nd_npy_text.specs.HeaderTokens.{truth_here}
use Rattle.nd_npy_text.specs.HeaderWriting.{python_truth_text}

-- the letter and the size of a kind name it
kind_back : (kind : Kind) (mark : ℕ) (tail : List ℕ) → item_word_in (mark ∷ (kind_code kind ++ 39 ∷ tail)) ≡ or_other_items (length (mark ∷ (kind_code kind ++ 39 ∷ tail))) (order_marked mark >>? λ order. in_order order kind) (39 ∷ tail)
unfolding item_type_named is_kind_letter
kind_back kinds.Bool mark tail = refl
kind_back kinds.Int8 mark tail = refl
kind_back kinds.Int16 mark tail = refl
kind_back kinds.Int32 mark tail = refl
kind_back kinds.Int64 mark tail = refl
kind_back kinds.UInt8 mark tail = refl
kind_back kinds.UInt16 mark tail = refl
kind_back kinds.UInt32 mark tail = refl
kind_back kinds.UInt64 mark tail = refl
kind_back kinds.Float16 mark tail = refl
kind_back kinds.Float32 mark tail = refl
kind_back kinds.Float64 mark tail = refl
kind_back kinds.Complex64 mark tail = refl
kind_back kinds.Complex128 mark tail = refl

order_back : (order : ByteOrder) → order_marked (order_mark order) ≡ Some order
order_back Little = refl
order_back Big = refl
order_back NotApplicable = refl

item_is : (kind : Kind) (order : ByteOrder) → order_goes_with order kind ≡ true → in_order order kind ≡ Some (record { kind = kind; order = order })
item_is kind order goes = rw goes refl

pub item_back : (item : ItemType) (tail : List ℕ) → IsTrue (has_its_order item) → item_word_in (item_type_text item ++ 39 ∷ tail) ≡ Ok (item, 39 ∷ tail)
item_back item tail goes =
    let left = length (order_mark item.order ∷ (kind_code item.kind ++ 39 ∷ tail)) in
    kind_back item.kind (order_mark item.order) tail
    ∙ ap (λ o. or_other_items left (o >>? λ order. in_order order item.kind) (39 ∷ tail)) (order_back item.order)
    ∙ ap (λ t. or_other_items left t (39 ∷ tail)) (item_is item.kind item.order goes)

pub truth_back : (truth : Bool) (tail : List ℕ) → truth_here (python_truth_text truth ++ tail) ≡ Ok (truth, tail)
unfolding truth_here
truth_back true tail = refl
truth_back false tail = refl
