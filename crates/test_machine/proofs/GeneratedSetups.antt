-- The texts and the setups of the generated histories.
use Rattle.std.specs.Prelude.{[], ◌∷◌, codes}
use Rattle.std.specs.declared.option.Option.TheVariants.{None, Some}
use Rattle.gnap_model.specs.Common.{Text}
use Rattle.gnap_model.specs.declared.rights.Right.TheVariants.{Reference}
use Rattle.gnap_model.specs.declared.objects.Setup.{Setup}
use Rattle.gnap_model.specs.declared.objects.Role.TheVariants.{Client, Server, Front}
use Rattle.test_machine.proofs.GeneratedWords.{object, key_with, rules_with}

abbrev pub text_1 : Text
text_1 = codes "https://as.example"

abbrev pub text_2 : Text
text_2 = codes "https://front.example"

abbrev pub text_3 : Text
text_3 = codes "c1"

abbrev pub text_4 : Text
text_4 = codes "secret-key-of-c1"

abbrev pub text_5 : Text
text_5 = codes "photos"

abbrev pub text_6 : Text
text_6 = codes "mail"

abbrev pub text_7 : Text
text_7 = codes "c2"

abbrev pub text_8 : Text
text_8 = codes "secret-key-of-c2"

abbrev pub text_9 : Text
text_9 = codes "r1"

abbrev pub text_10 : Text
text_10 = codes "secret-key-of-r1"

abbrev pub text_11 : Text
text_11 = codes "r2"

abbrev pub text_12 : Text
text_12 = codes "secret-key-of-r2"

abbrev pub text_13 : Text
text_13 = codes "calendar"

abbrev pub text_14 : Text
text_14 = codes "f1"

abbrev pub text_15 : Text
text_15 = codes "secret-key-of-f1"

abbrev pub text_16 : Text
text_16 = codes "t"

abbrev pub text_17 : Text
text_17 = codes "read"

abbrev pub text_18 : Text
text_18 = codes "write"

abbrev pub text_19 : Text
text_19 = codes "a"

abbrev pub text_20 : Text
text_20 = codes "{}"

abbrev pub text_21 : Text
text_21 = codes "b"

abbrev pub text_22 : Text
text_22 = codes "i"

abbrev pub text_23 : Text
text_23 = codes "d1"

abbrev pub text_24 : Text
text_24 = codes "d2"

abbrev pub text_25 : Text
text_25 = codes "p"

abbrev pub text_26 : Text
text_26 = codes "{\"x\":1}"

abbrev pub text_27 : Text
text_27 = codes "u1"

abbrev pub text_28 : Text
text_28 = codes "AAAAAAAAAAIAAAAAAAAAAf__________"

abbrev pub text_29 : Text
text_29 = codes "AAAAAAAAAAF8g4xAUNMJ0BYqTcBwflf9"

abbrev pub text_30 : Text
text_30 = codes "c9"

abbrev pub text_31 : Text
text_31 = codes "l0"

abbrev pub text_32 : Text
text_32 = codes "http://c:8080/x?y=1"

abbrev pub text_33 : Text
text_33 = codes "n"

abbrev pub text_34 : Text
text_34 = codes "AAAAAAAAAAMAAAAAAAAAAAAAAAAAAAAA"

abbrev pub text_35 : Text
text_35 = codes "BBBBBBBB"

abbrev pub text_36 : Text
text_36 = codes "AAAAAAAAAAQAAAAAAAAAAAAAAAAAAAAA"

abbrev pub text_37 : Text
text_37 = codes "AAAAAAAAAAL__________1Gn_659IOMN"

abbrev pub text_38 : Text
text_38 = codes "AAAAAAAAAAHP8tEcl1XuHx9Im4Dbh2hG"

abbrev pub text_39 : Text
text_39 = codes "AAAAAAAAAAP_____________________"

abbrev pub text_40 : Text
text_40 = codes "x"

abbrev pub text_41 : Text
text_41 = codes "l1"

abbrev pub text_42 : Text
text_42 = codes "AAAAAAAAAAkAAAAAAAAAAAAAAAAAAAAA"

abbrev pub text_43 : Text
text_43 = codes "AAAAAAAAAAQAAAAAAAAAAQAAAAAAAAAB"

abbrev pub text_44 : Text
text_44 = codes "BBBBBBBC"

abbrev pub text_45 : Text
text_45 = codes "AAAAAAAAAAUAAAAAAAAAAAAAAAAAAAAA"

abbrev pub text_46 : Text
text_46 = codes "AAAAAAAAAAoAAAAAAAAAAAAAAAAAAAAA"

abbrev pub text_47 : Text
text_47 = codes "AAAAAAAAAAYAAAAAAAAAAAAAAAAAAAAA"

abbrev pub text_48 : Text
text_48 = codes "AAAAAAAAAAcAAAAAAAAAAAAAAAAAAAAA"

abbrev pub text_49 : Text
text_49 = codes "AAAAAAAAAAgAAAAAAAAAAAAAAAAAAAAA"

abbrev pub text_50 : Text
text_50 = codes "AAAAAAAAAAsAAAAAAAAAAAAAAAAAAAAA"

abbrev pub text_51 : Text
text_51 = codes "AAAAAAAAAAwAAAAAAAAAAAAAAAAAAAAA"

abbrev pub text_52 : Text
text_52 = codes "AAAAAAAAAAIAAAAAAAAAAAAAAAAAAAAA"

abbrev pub text_53 : Text
text_53 = codes "AAAAAAAAAAEAAAAAAAAAAAAAAAAAAAAA"

abbrev pub text_54 : Text
text_54 = codes "AAAAAAAAAAH__________5od0Y4RSTw_"

abbrev pub text_55 : Text
text_55 = codes "AAAAAAAAAAIAAAAAAAAAAQAAAAAAAAAB"

abbrev pub text_56 : Text
text_56 = codes "s1"

abbrev pub text_57 : Text
text_57 = codes "AAAAAAAAAAFLaxOxhx93hQAAAAAAAAAB"

abbrev pub text_58 : Text
text_58 = codes "AAAAAAAAAAPwOdbvr5adCklW6hrIfMU6"

abbrev pub text_59 : Text
text_59 = codes "AAAAAAAAAAT__________wAAAAAAAAAB"

abbrev pub text_60 : Text
text_60 = codes "VJLO6A4CATR0KRO"

abbrev pub text_61 : Text
text_61 = codes "AAAAAAAAAAQAAAAAAAAAAVgFP5wt5H6N"

abbrev pub text_62 : Text
text_62 = codes "ZZZZZZZZ"

abbrev pub text_63 : Text
text_63 = codes "AAAAAAAAAAX__________-gwR4h5jtQA"

abbrev pub text_64 : Text
text_64 = codes "https://client.example/cb"

abbrev pub text_65 : Text
text_65 = codes "AAAAAAAAAAH__________wAAAAAAAAAB"

abbrev pub text_66 : Text
text_66 = codes "l2"

abbrev pub text_67 : Text
text_67 = codes "l3"

abbrev pub text_68 : Text
text_68 = codes "l4"

abbrev pub text_69 : Text
text_69 = codes "l5"

abbrev pub text_70 : Text
text_70 = codes "l6"

abbrev pub text_71 : Text
text_71 = codes "l7"

abbrev pub text_72 : Text
text_72 = codes "AAAAAAAAAAFyF76I-lYdFQAAAAAAAAAB"

abbrev pub text_73 : Text
text_73 = codes "CGJJBDSC"

abbrev pub text_74 : Text
text_74 = codes "AAAAAAAAAA0AAAAAAAAAAAAAAAAAAAAA"

abbrev pub text_75 : Text
text_75 = codes "AAAAAAAAAA8AAAAAAAAAAAAAAAAAAAAA"

abbrev pub text_76 : Text
text_76 = codes "AAAAAAAAAA4AAAAAAAAAAAAAAAAAAAAA"

abbrev pub text_77 : Text
text_77 = codes "AAAAAAAAAAOGrE889dk1DQAAAAAAAAAB"

abbrev pub text_78 : Text
text_78 = codes "AAAAAAAAAAH__________2hAOWiqG8tS"

abbrev pub text_79 : Text
text_79 = codes "AAAAAAAAAAL_____________________"

abbrev pub text_80 : Text
text_80 = codes "AAAAAAAAAAIAAAAAAAAAAeGW-i19rIWM"

abbrev pub text_81 : Text
text_81 = codes "AAAAAAAAAAT_____________________"

abbrev pub text_82 : Text
text_82 = codes "AAAAAAAAAAL__________5mDry8sJY5T"

abbrev pub text_83 : Text
text_83 = codes "AAAAAAAAAAEAAAAAAAAAAf__________"

abbrev pub text_84 : Text
text_84 = codes "AAAAAAAAAAgAAAAAAAAAAQAAAAAAAAAB"

abbrev pub text_85 : Text
text_85 = codes "AAAAAAAAAAkAAAAAAAAAAf__________"

abbrev pub text_86 : Text
text_86 = codes "AAAAAAAAAAPuBQxdMZ-irQAAAAAAAAAB"

abbrev pub text_87 : Text
text_87 = codes "AAAAAAAAAAX__________1fux0lFwjJP"

abbrev pub text_88 : Text
text_88 = codes "AAAAAAAAAAaStf_1QrdSC___________"

abbrev pub text_89 : Text
text_89 = codes "AAAAAAAAAAP__________wAAAAAAAAAB"

abbrev pub text_90 : Text
text_90 = codes "BBBBBBBD"

abbrev pub text_91 : Text
text_91 = codes "AAAAAAAAAAr___________FvKkj47dPb"

abbrev pub text_92 : Text
text_92 = codes "AAAAAAAAAANjsTOY-vff_wAAAAAAAAAB"

abbrev pub text_93 : Text
text_93 = codes "AAAAAAAAAAQN_jjZjR8cCx-D7YTPPdrc"

abbrev pub text_94 : Text
text_94 = codes "AAAAAAAAAAHLAFH875veJP__________"

abbrev pub text_95 : Text
text_95 = codes "TJWRSXDM"

abbrev pub text_96 : Text
text_96 = codes "AAAAAAAAAAKZCNwxgks-IgAAAAAAAAAB"

abbrev pub text_97 : Text
text_97 = codes "AAAAAAAAAAFGti0FvbbIyjbxyxCxCr-A"

abbrev pub text_98 : Text
text_98 = codes "AAAAAAAAAAQWOhejjyxzh___________"

abbrev pub text_99 : Text
text_99 = codes "BBBBBBBF"

abbrev pub text_100 : Text
text_100 = codes "KSWPFRZT"

abbrev pub text_101 : Text
text_101 = codes "AAAAAAAAABAAAAAAAAAAAAAAAAAAAAAA"

abbrev pub text_102 : Text
text_102 = codes "AAAAAAAAAAZazRV0_8C_YP__________"

abbrev pub text_103 : Text
text_103 = codes "AAAAAAAAAATRrKni1kRaMVoHxje9I_8e"

abbrev pub text_104 : Text
text_104 = codes "AAAAAAAAAAUvaJPQ3QdKLFc73VFNB86O"

abbrev pub text_105 : Text
text_105 = codes "AAAAAAAAAAcAAAAAAAAAAdzcmp3cLZOy"

abbrev pub text_106 : Text
text_106 = codes "AAAAAAAAABEAAAAAAAAAAAAAAAAAAAAA"

abbrev pub text_107 : Text
text_107 = codes "AAAAAAAAABUAAAAAAAAAAAAAAAAAAAAA"

abbrev pub text_108 : Text
text_108 = codes "AAAAAAAAABQAAAAAAAAAAAAAAAAAAAAA"

abbrev pub text_109 : Text
text_109 = codes "AAAAAAAAABL_____________________"

abbrev pub text_110 : Text
text_110 = codes "AAAAAAAAABP__________wAAAAAAAAAB"

abbrev pub text_111 : Text
text_111 = codes "AAAAAAAAABYAAAAAAAAAAAAAAAAAAAAA"

abbrev pub rules_0 : Setup
rules_0 = rules_with text_1 text_2
    (key_with text_3 Client text_4 ((Reference text_5) ∷ []) ((Reference text_6) ∷ []) [] ∷ key_with text_7 Client text_8 ((Reference text_5) ∷ []) [] []
    ∷ key_with text_9 Server text_10 [] [] (text_5 ∷ text_6 ∷ []) ∷ key_with text_11 Server text_12 [] [] (text_13 ∷ [])
    ∷ key_with text_14 Front text_15 [] [] [] ∷ [])

abbrev pub rules_1 : Setup
rules_1 = rules_with text_1 text_2
    (key_with text_9 Server text_10 [] [] (text_5 ∷ text_16 ∷ [])
    ∷ key_with text_3 Client text_4
    ((Reference text_5) ∷ (object text_16 (Some (text_17 ∷ text_18 ∷ [])) (Some (text_19 ∷ [])) None None None text_20)
    ∷ (object text_16 (Some (text_17 ∷ [])) (Some (text_21 ∷ [])) None None None text_20) ∷ [])
    ((Reference text_6) ∷ (object text_16 (Some (text_17 ∷ [])) (Some (text_19 ∷ [])) None None (Some text_22) text_20)
    ∷ (object text_5 None None (Some (text_23 ∷ text_24 ∷ [])) (Some (text_25 ∷ [])) None text_20) ∷ []) []
    ∷ key_with text_7 Client text_8 []
    ((Reference text_5) ∷ (Reference text_6) ∷ (object text_16 (Some (text_17 ∷ [])) (Some (text_19 ∷ [])) None None None text_26) ∷ []) []
    ∷ key_with text_11 Server text_12 [] [] (text_6 ∷ []) ∷ key_with text_14 Front text_15 [] [] [] ∷ [])

abbrev pub rules_2 : Setup
rules_2 = rules_with text_1 text_2
    (key_with text_14 Front text_15 [] [] [] ∷ key_with text_7 Client text_8 ((Reference text_6) ∷ (Reference text_16) ∷ []) ((Reference text_5) ∷ []) []
    ∷ key_with text_3 Client text_4 ((object text_16 (Some (text_17 ∷ text_18 ∷ [])) (Some (text_19 ∷ [])) None None None text_20) ∷ [])
    ((object text_16 (Some (text_17 ∷ [])) (Some (text_21 ∷ [])) None None None text_20) ∷ (object text_16 None None None None None text_20)
    ∷ (Reference text_5) ∷ []) [] ∷ key_with text_9 Server text_10 [] [] (text_16 ∷ text_6 ∷ [] ∷ []) ∷ key_with text_11 Server text_12 [] [] [] ∷ [])
