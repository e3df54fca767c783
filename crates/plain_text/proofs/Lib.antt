mod PlainText
