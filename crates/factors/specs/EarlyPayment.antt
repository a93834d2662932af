-- The early payment reduction of document 003 ("Months and factors" of document 01). Assumes nothing.
use Rattle.std.specs.Prelude.{ℕ, ◌*◌, ◌/◌, List, [], ◌∷◌, get_or}

-- Table A, in thousandths: months 0 to 60 to the 60th birthday, a column of the document a line
unfoldable pub table_a : List ℕ
table_a =
    998 ∷ 994 ∷ 989 ∷ 985 ∷ 981 ∷ 977 ∷ 972 ∷ 968 ∷ 964 ∷ 959 ∷ 955 ∷ 951 ∷
    947 ∷ 943 ∷ 939 ∷ 935 ∷ 931 ∷ 927 ∷ 923 ∷ 919 ∷ 915 ∷ 911 ∷ 907 ∷ 903 ∷
    899 ∷ 896 ∷ 892 ∷ 888 ∷ 885 ∷ 881 ∷ 877 ∷ 873 ∷ 870 ∷ 866 ∷ 862 ∷ 859 ∷
    855 ∷ 852 ∷ 848 ∷ 845 ∷ 841 ∷ 838 ∷ 834 ∷ 831 ∷ 827 ∷ 824 ∷ 821 ∷ 817 ∷
    814 ∷ 811 ∷ 807 ∷ 804 ∷ 801 ∷ 798 ∷ 794 ∷ 791 ∷ 788 ∷ 785 ∷ 781 ∷ 778 ∷
    775 ∷ []

-- the factor at a number of months; 0 past the table
unfoldable pub early_payment_factor : ℕ → ℕ
early_payment_factor months = get_or table_a months 0

-- "stated pension × Table A ÷ 1,000, down"
unfoldable pub reduced_pension : ℕ → ℕ → ℕ
reduced_pension stated months = stated * early_payment_factor months / 1000
